-- What the calls for a region have told, for the table of the program.
use Rattle.std.proofs.Common.{ℕ, suc, ◌<◌, ◌≡◌, ◌==◌, ◌↔◌, Bool, true, ◌||◌, List, length, sym, ap, subst, ◌∙◌}
use Rattle.std.specs.List.{filter}
use Rattle.loom_tree.specs.Tree.{Source}
use Rattle.loom_lang.specs.Rules.{KeepsRules}
use Rattle.loom_lang.specs.Places.{places}
use Rattle.loom_trace.specs.Places.{has_place}
use Rattle.loom_law.specs.Filter.{between, Plan, has}
use Rattle.loom_law.specs.Paths.{statements_of, CallsFunction}
use Rattle.loom_law.specs.FilterRefusal.{IsWholeOf}
use Rattle.loom_plan.specs.Sets.{event_numbers}
use Rattle.loom_sites.specs.declared.node.TableNode.{TableNode}
use Rattle.loom_sites.specs.declared.links.PlaceLinks.{PlaceLinks}
use Rattle.loom_sites.specs.declared.reach.NodeSet.{NodeSet}
use Rattle.loom_sites.specs.declared.area.AreaContents.{AreaContents}
use Rattle.loom_sites.specs.Links.{program_rows}
use Rattle.loom_sites.specs.Rows.{meets_at, any_meets, IsTable}
use Rattle.loom_sites.specs.Reach.{HasPathTo, has_node}
use Rattle.loom_sites.specs.Functions.{has_function, AreFunctions, IsReachedFrom, calls_there, lies_there}
use Rattle.loom_sites.specs.Events.{begins_there, is_untested, is_frame_event}
use Rattle.loom_sites.specs.Areas.{has_its_node, turns_there, has_inside, is_own, IsOwnNumber, AreWith}
use Rattle.loom_sites.proofs.Rows.{as_many_rows, program_table}
use Rattle.loom_sites.proofs.Starts.{starts_are, halts_are}
use Rattle.loom_sites.proofs.Regions.{IsGathered}
use Rattle.loom_sites.proofs.Wholes.{IsFrame}
use Rattle.loom_sites.proofs.Frames.{direct_within}
use Rattle.loom_sites.proofs.OwnPlaces.{IsReachedSet, own_places}

-- the table of a program has a row for each place
pub all_rows : (p q : Source) (rows : List PlaceLinks) → q ≡ p → rows ≡ program_rows p → length rows ≡ length (places q)
all_rows p q rows e t = ap length t ∙ (as_many_rows p ∙ ap (λ (z : Source). length (places z)) (sym e))

pub is_table : (p : Source) (rows : List PlaceLinks) → KeepsRules p → rows ≡ program_rows p → IsTable rows
is_table p rows rules t = let P : List PlaceLinks → Type 0 = λ z. IsTable z in subst P (sym t) (program_table p rules)

pub calls_within : (p : Source) (rows : List PlaceLinks) (set : List ℕ) (bits : ℕ) → rows ≡ program_rows p → ((g : ℕ) → has_function bits g ≡ any_meets (calls_there set g) 0 rows) → AreFunctions p bits
calls_within p rows set bits t h = direct_within p set bits (λ g. h g ∙ ap (λ (z : List PlaceLinks). any_meets (calls_there set g) 0 z) t)

starts_at : (p q : Source) (f : Plan) (es starts : List ℕ) (rows : List PlaceLinks) → q ≡ p → rows ≡ program_rows p → ((k : ℕ) → has_place starts k ≡ meets_at (begins_there q f es) rows k)
    → (k : ℕ) → has_place starts k ≡ meets_at (begins_there p f es) (program_rows p) k
starts_at p q f es starts rows e t h k = h k ∙ (ap (λ (z : Source). meets_at (begins_there z f es) rows k) e ∙ ap (λ (z : List PlaceLinks). meets_at (begins_there p f es) z k) t)

inside_at : (p q : Source) (f : Plan) (set events : List ℕ) (calls : ℕ) (rows : List PlaceLinks) → q ≡ p → rows ≡ program_rows p → ((m : ℕ) → has events m ≡ any_meets (has_inside q f set calls m) 0 rows)
    → (m : ℕ) → has events m ≡ any_meets (has_inside p f set calls m) 0 (program_rows p)
inside_at p q f set events calls rows e t h m = h m ∙ (ap (λ (z : Source). any_meets (has_inside z f set calls m) 0 rows) e ∙ ap (λ (z : List PlaceLinks). any_meets (has_inside p f set calls m) 0 z) t)

pub between_set : (p q : Source) (f : Plan) (es xs bare ys starts halts : List ℕ) (rows : List PlaceLinks) (r : NodeSet) → KeepsRules p → q ≡ p → rows ≡ program_rows p
    → ((k : ℕ) → has_place starts k ≡ meets_at (begins_there q f es) rows k) → ((m : ℕ) → has bare m ≡ is_untested f m) → ys ≡ filter (has bare) xs
    → ((k : ℕ) → has_place halts k ≡ meets_at (begins_there q f ys) rows k) → ((m : TableNode) → (has_node r m ≡ true) ↔ HasPathTo rows starts halts m)
    → IsReachedSet p f es xs starts halts r
between_set p q f es xs bare ys starts halts rows r rules e t s u b h n = record {
  rules = rules;
  starts_are = starts_are p f es starts (starts_at p q f es starts rows e t s);
  halts_are = halts_are p f xs bare ys halts u b (starts_at p q f ys halts rows e t h);
  reached = (let P : List PlaceLinks → Type 0 = λ z. (m : TableNode) → (has_node r m ≡ true) ↔ HasPathTo z starts halts m in subst P t n);
}

pub between_facts : (p q : Source) (f : Plan) (es xs starts halts : List ℕ) (rows : List PlaceLinks) (r : NodeSet) (direct : ℕ) (x : AreaContents) → q ≡ p → rows ≡ program_rows p
    → IsReachedSet p f es xs starts halts r → ((g : ℕ) → has_function direct g ≡ any_meets (calls_there r.starts g) 0 rows) → ((g : ℕ) → (has_function x.calls g ≡ true) ↔ IsReachedFrom p direct g)
    → ((g : ℕ) → has_function x.functions g ≡ any_meets (lies_there starts g) 0 rows) → ((m : ℕ) → has (event_numbers x.events) m ≡ any_meets (has_inside q f r.starts x.calls m) 0 rows)
    → IsGathered p f es xs starts halts r direct x
between_facts p q f es xs starts halts rows r direct x e t z d c l i = record {
  rules = z.rules;
  starts_are = z.starts_are;
  halts_are = z.halts_are;
  reached = z.reached;
  directly = λ g. d g ∙ ap (λ (w : List PlaceLinks). any_meets (calls_there r.starts g) 0 w) t;
  calls = c;
  functions = λ g. l g ∙ ap (λ (w : List PlaceLinks). any_meets (lies_there starts g) 0 w) t;
  events = inside_at p q f r.starts (event_numbers x.events) x.calls rows e t i;
}

pub between_own : (p : Source) (f : Plan) (es xs starts halts old mid new : List ℕ) (rows : List PlaceLinks) (r : NodeSet) → rows ≡ program_rows p → IsReachedSet p f es xs starts halts r
    → ((k : ℕ) → has_place mid k ≡ (has_place old k || meets_at (has_its_node r) rows k)) → ((k : ℕ) → has_place new k ≡ (has_place mid k || meets_at (turns_there r) rows (suc k)))
    → AreWith (IsOwnNumber p f (between es xs)) old new
between_own p f es xs starts halts old mid new rows r t z a b =
    own_places p f es xs starts halts old mid new r z (λ k. a k ∙ ap (λ (w : List PlaceLinks). has_place old k || meets_at (has_its_node r) w k) t)
    (λ k. b k ∙ ap (λ (w : List PlaceLinks). has_place mid k || meets_at (turns_there r) w (suc k)) t)

pub own_at : (p : Source) (g : ℕ) (own : List ℕ) (rows : List PlaceLinks) → rows ≡ program_rows p → ((k : ℕ) → has_place own k ≡ meets_at (is_own g) rows k) → (k : ℕ) → has_place own k ≡ meets_at (is_own g) (program_rows p) k
own_at p g own rows t h k = h k ∙ ap (λ (w : List PlaceLinks). meets_at (is_own g) w k) t

pub frame_facts : (p q : Source) (f : Plan) (m g : ℕ) (own frames inside : List ℕ) (direct : ℕ) (rows : List PlaceLinks) (x : AreaContents) → KeepsRules p → q ≡ p → rows ≡ program_rows p → IsWholeOf f m g → g < length p.funcs
    → ((k : ℕ) → has_place own k ≡ meets_at (is_own g) rows k) → ((h : ℕ) → (has_function direct h ≡ true) ↔ CallsFunction p (statements_of p g) h)
    → ((h : ℕ) → (has_function x.calls h ≡ true) ↔ IsReachedFrom p direct h) → ((h : ℕ) → has_function x.functions h ≡ (g == h)) → ((n : ℕ) → has frames n ≡ is_frame_event f g n)
    → ((n : ℕ) → has inside n ≡ any_meets (has_inside q f own x.calls n) 0 rows) → ((n : ℕ) → has (event_numbers x.events) n ≡ (has frames n || has inside n))
    → IsFrame p f m g own direct x
frame_facts p q f m g own frames inside direct rows x rules e t w low o d c b i j k = record {
  rules = rules;
  whole_of = w;
  there = low;
  own_are = own_at p g own rows t o;
  directly = d;
  calls = c;
  functions = b;
  events = λ n. k n ∙ (ap (λ (z : Bool). z || has inside n) (i n) ∙ ap (λ (z : Bool). is_frame_event f g n || z) (inside_at p q f own inside x.calls rows e t j n));
}
