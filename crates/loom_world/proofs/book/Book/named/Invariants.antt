use Rattle.std.proofs.Common.{◌≡◌, false, take}
use Rattle.std.specs.List.{list_any}
use Rattle.loom_law.specs.Control.{have_one_name}
use Rattle.loom_world.proofs.book.Book.named.Given as goal

-- none of the filters so far has the name
abbrev pub invariant-active : goal.invariant-active
invariant-active l = list_any (λ j. have_one_name l.self.commands j l.k) (take l.j-index l.j-items) ≡ false
