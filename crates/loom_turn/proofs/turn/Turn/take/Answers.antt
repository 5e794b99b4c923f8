use Rattle.std.proofs.Common.{rules, ◌≡◌, ap, arith, ◌∙◌}
use Rattle.loom_turn.proofs.Tables.{draws_at, loads_at, admitted, has_slot}
use Rattle.loom_turn.proofs.turn.Turn.take.Goals.{in-None, in-Some+then-found-ticket}
use Rattle.loom_turn.proofs.turn.Turn.take.Goals as goal

pub fetch_add-ticket-requires : goal.fetch_add-ticket-requires
fetch_add-ticket-requires g c = (c.requires.seat.0, (let s = c.args.self.now.sized.0 in omega arith), draws_at _ _ _ _ c.args.seat.now.me c.requires.idle.0 c.requires.seat.1)

pub load-found-requires : goal.load-found-requires
load-found-requires g c = let l = c.loop.invariant in (l.3 ∙ c.requires.seat.0, (let s = c.args.self.now.sized.0 in omega arith), loads_at _ _ _ _ l.0 c.loop.seat.me (ap (λ m. m.0.stage) l.1))

pub exchange-requires : goal.exchange-requires
exchange-requires g c =
    let l = c.loop.invariant in
    elim c.match-next.branch [
      | in-None w ↦ search rules
      | in-Some+then-found-ticket w ↦
          let e = w.load-found.ensures in
          let is_mine : w.load-found.result ≡ c.fetch_add-ticket.result = search rules in
          let h = admitted g.T.Fits.label _ _ c.args.seat.now.me.0 _ _ l.1 (is_mine ∙ l.2) e.2 in
          (rw w.seat-is (e.0 ∙ (l.3 ∙ c.requires.seat.0)), rw w.seat-is (has_slot _ h.0 (ap (λ m. m.1) h.2)))
    ]
