use Rattle.loom_law.proofs.Sites.{places_are_sound}
use Rattle.loom_law.proofs.laws.sound_places.Goals as goal

pub returns : goal.returns
returns c = places_are_sound
