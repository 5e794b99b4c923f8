use Rattle.std.proofs.Common.{rules, ◌≡◌, ◌+◌, ◌/◌, [], arith, ap, sym, ◌∙◌, length, replicate, refl}
use Rattle.loom_gate.specs.declared.pass.Pass as pass
use Rattle.loom_gate.specs.View.{key_of, first_key}
use Rattle.loom_gate.specs.Seats.{IsStanding}
use Rattle.loom_gate.proofs.Rows.{all_snoc, length_snoc}
use Rattle.loom_gate.proofs.Words.{begins}
use Rattle.loom_gate.proofs.GateSteps.{makes_at}
use Rattle.loom_gate.proofs.SeatFacts.{passes_snoc, new_view, after_split}
use Rattle.loom_gate.proofs.gate.Gate.make.Goals as goal

pub of_words-requires : goal.of_words-requires
of_words-requires c =
    let ws_is : c.as_slice.result.now ≡ replicate ((c.from-n.result + 1) + (c.from.result + 63) / 64) 0 = search rules in
    let a : c.from-n.result ≡ c.from-3.result = (let x = c.from-n.ensures in let y = c.from-3.ensures in omega arith) in
    let b : c.from.result ≡ c.from-4.result = (let x = c.from.ensures in let y = c.from-4.ensures in omega arith) in
    let y = c.from-4.ensures in let some = c.requires.2 in let most = c.requires.3 in
    begins c.from-3.result c.from-4.result c.as_slice.result.now (omega arith, omega arith) (ws_is ∙ (λ j. replicate ((a j + 1) + (b j + 63) / 64) 0))

pub split_seat-requires : goal.split_seat-requires
split_seat-requires c =
    let l = c.threads.invariant in let t = c.threads-test.true in
    let x = c.from-3.ensures in
    (l.table, search rules, makes_at _ _ _ c.threads.seat.me.0 (record (first_key c.args.threads c.args.places) { born = c.threads.t }) (ap (λ m. m.0) l.view) (search rules) refl)

pub threads-preserved : goal.threads-preserved
threads-preserved c =
    let l = c.threads.invariant in let t = c.threads-test.true in
    let s = c.split_seat.ensures in
    let e = c.push_reserved.ensures.items in
    let born = ap (λ m. (key_of m.0).born) l.view in
    let p = new_view c.split_seat.result.me (key_of c.threads.seat.me.0).born c.threads.t s.4 born in
    let none = c.in_ok-rows-2.ensures.items in
    let wide = c.in_ok-rows-2.ensures.capacity in
    let few = ap length none in
    let count = l.count in let room = l.room in let cap = c.push_reserved.ensures.capacity in let within = l.within in
    record {
      are = rw e (passes_snoc _ _ _ 1 c.threads.passes.items _ l.are (omega arith)
          (s.3 ∙ l.table, (omega arith, omega arith), p.0, c.requires.2, sym (ap (λ x. x.fresh) p.1), none ∙ sym (ap (λ x. x.rows) p.1), omega arith, omega arith));
      stand = rw e (all_snoc (λ (q : pass.Pass). IsStanding q × (q.place ≡ 0) × (q.rows.items ≡ [])) c.threads.passes.items _ l.stand (ap (λ x. x.stage) p.1, refl, none));
      table = s.0 ∙ l.table;
      view = after_split _ _ _ l.view s.2;
      count = rw e (length_snoc c.threads.passes.items _ ∙ ap (λ z. z + 1) l.count);
      room = omega arith;
      within = omega arith;
    }
