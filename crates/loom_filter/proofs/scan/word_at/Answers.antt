use Rattle.std.proofs.Common.{◌≡◌, ◌-◌, if◌then◌else◌, take, drop}
use Rattle.loom_filter.specs.Words.{is_name}
use Rattle.loom_filter.specs.Token.{name, word}
use Rattle.loom_filter.specs.ReaderView.{token_of}
use Rattle.loom_filter.proofs.Spots.{word_there}
use Rattle.loom_filter.proofs.scan.word_at.Goals as goal

pub returns-clause-spot : goal.returns-clause-spot
returns-clause-spot c =
    let bytes = c.args.bytes.now in
    let w = take (c.word_end-end.result - c.args.at) (drop c.args.at bytes) in
    let told : token_of c.word_token-token.result ≡ (if is_name w then name w else word w) = rw (← c.in_ok-is_name.ensures, ← c.in_ok-copied.ensures) c.word_token-token.ensures in
    word_there bytes c.args.at c.word_end-end.result c.word_token-token.result c.requires.within c.requires.word c.word_end-end.ensures.value told
