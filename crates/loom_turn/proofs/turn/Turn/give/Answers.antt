use Rattle.std.proofs.Common.{ap, arith, ◌∙◌}
use Rattle.loom_turn.proofs.Tables.{serves_at, puts}
use Rattle.loom_turn.proofs.turn.Turn.give.Goals as goal

pub fetch_add-requires : goal.fetch_add-requires
fetch_add-requires g c =
    let e = c.exchange.ensures in
    let new_me = e.3 in (
      e.0 ∙ c.requires.seat.0,
      (let s = c.args.self.now.sized.0 in omega arith),
      serves_at _ _ _ _ c.args.value c.exchange.new.seat.me
          (rw (ap (λ m. m.0) new_me) c.requires.turn.0)
          (puts c.args.seat.now.me.1 c.exchange.new.seat.me.1 c.args.value (ap (λ m. m.1) new_me) c.requires.turn.1)
          (ap (λ m. m.0.label) new_me ∙ c.requires.label),
    )
