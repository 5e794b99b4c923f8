-- Where paths start and end, by the events of a region.
use Rattle.std.proofs.Common.{ℕ, ◌≡◌, Bool, true, false, not, ◌&&◌, List, [], ◌∷◌, slice_get, Option, Some, None, if◌then◌else◌, refl, sym, ap, subst, ◌∙◌}
use Rattle.std.specs.List.{Contains, filter}
use Rattle.loom_tree.specs.Tree.{Expression, Source}
use Rattle.loom_lang.specs.Places.{inside, places, place_at}
use Rattle.loom_trace.specs.Places.{has_place}
use Rattle.loom_law.specs.Filter.{Site, Watch, statement, Plan, has, share, is_some}
use Rattle.loom_law.specs.Paths.{watch_at, IsExit}
use Rattle.loom_law.proofs.Course.{contains_cases, no_member}
use Rattle.loom_law.proofs.Matches.{shared_one, one_shared, filter_member, if_first, if_later}
use Rattle.loom_law.proofs.Holdings.{either_of}
use Rattle.loom_sites.specs.declared.links.PlaceLinks.{PlaceLinks}
use Rattle.loom_sites.specs.Links.{is_statement, program_rows}
use Rattle.loom_sites.specs.Rows.{test_if, meets_at}
use Rattle.loom_sites.specs.Events.{watched_at, begins_there, is_untested_if, is_untested}
use Rattle.loom_sites.proofs.Watches.{WatchesStatement, event_told, event_found}
use Rattle.loom_sites.proofs.RowPlaces.{program_aligned, place_row, statement_place}
use Rattle.loom_sites.proofs.Courses.{AreStarts, AreHalts}

and_parts : (a b : Bool) → (a && b) ≡ true → (a ≡ true) × (b ≡ true)
and_parts true b h = (refl, h)
and_parts false b h = cc

and_true : (a b : Bool) → a ≡ true → b ≡ true → (a && b) ≡ true
and_true true b h g = g
and_true false b h g = cc

abbrev BeginsOne : Source → Plan → List ℕ → ℕ → Type 0
BeginsOne p f es k = (l : ℕ) × ((place_at p k ≡ Some (inside l)) × ((m : ℕ) × (Contains es m × WatchesStatement f m l)))

begins_told : (p : Source) (f : Plan) (es : List ℕ) (k : ℕ) → meets_at (begins_there p f es) (program_rows p) k ≡ true → BeginsOne p f es k
begins_told p f es k e = by_row (slice_get (program_rows p) k) refl e
  where
    by_row : (o : Option PlaceLinks) → slice_get (program_rows p) k ≡ o → test_if (begins_there p f es) k o ≡ true → BeginsOne p f es k
    by_row None i t = cc
    by_row (Some row) i t =
        let parts = and_parts (is_statement row.kind) (share (watched_at p f k) es) t in
        let at = statement_place p k row i parts.0 in
        let m = shared_one (watched_at p f k) es parts.1 in
        (at.0, (at.1, (m.0, (m.1.1, event_told p f k at.0 m.0 at.1 m.1.0))))

begins_found : (p : Source) (f : Plan) (es : List ℕ) (k : ℕ) → BeginsOne p f es k → meets_at (begins_there p f es) (program_rows p) k ≡ true
begins_found p f es k h =
    let row = place_row (program_rows p) (places p) k (inside h.0) (program_aligned p) h.1.0 in
    ap (test_if (begins_there p f es) k) row.1.0
    ∙ and_true (is_statement row.0.kind) (share (watched_at p f k) es) row.1.1
    (one_shared (watched_at p f k) es h.1.1.0 (event_found p f k h.0 h.1.1.0 h.1.0 h.1.1.1.1) h.1.1.1.0)

pub starts_are : (p : Source) (f : Plan) (es starts : List ℕ) → ((k : ℕ) → has_place starts k ≡ meets_at (begins_there p f es) (program_rows p) k) → AreStarts p f es starts
starts_are p f es starts h k = (λ e. begins_told p f es k (sym (h k) ∙ e), λ b. h k ∙ begins_found p f es k b)

-- exits without a test

filter_has : (test : ℕ → Bool) (xs : List ℕ) (m : ℕ) → test m ≡ true → Contains xs m → Contains (filter test xs) m
filter_has test [] m e c = absurd (no_member m c)
filter_has test (x ∷ xs) m e c =
    either_of (contains_cases x m xs c)
    (λ same. let P : ℕ → Type 0 = λ z. Contains (if test x then x ∷ filter test xs else filter test xs) z in subst P same (if_first (test x) x (filter test xs) (ap test same ∙ e)))
    (λ d. if_later (test x) x m (filter test xs) (filter_has test xs m e d))

no_test : (t : Option Expression) → not (is_some t) ≡ true → t ≡ None
no_test None h = refl
no_test (Some e) h = cc

bare_watch : (f : Plan) (m l : ℕ) (w : Watch) → watch_at f m ≡ Some w → w.site ≡ statement l → is_untested f m ≡ true → watch_at f m ≡ Some (record { site = statement l; test = None })
bare_watch f m l w is site u =
    let none : w.test ≡ None = no_test w.test (sym (ap is_untested_if is) ∙ u) in
    is
    ∙ (ap (λ (s : Site). Some (record { site = s; test = w.test })) site ∙ ap (λ (t : Option Expression). Some (record { site = statement l; test = t })) none)

same_inside : (a b : ℕ) → Some (inside a) ≡ Some (inside b) → a ≡ b
same_inside a b e = cc

pub halts_are : (p : Source) (f : Plan) (xs bare ys halts : List ℕ) → ((m : ℕ) → has bare m ≡ is_untested f m) → ys ≡ filter (has bare) xs
    → ((k : ℕ) → has_place halts k ≡ meets_at (begins_there p f ys) (program_rows p) k) → AreHalts p f xs halts
halts_are p f xs bare ys halts u e h k l at = (told, found)
  where
    told : has_place halts k ≡ true → IsExit f xs l
    told b =
        let t = begins_told p f ys k (sym (h k) ∙ b) in
        let P : List ℕ → Type 0 = λ zs. Contains zs t.1.1.0 in
        let parts = filter_member (has bare) xs t.1.1.0 (subst P e t.1.1.1.0) in
        let line : t.0 ≡ l = same_inside t.0 l (sym t.1.0 ∙ at) in
        record { event = t.1.1.0; one = parts.1; is = bare_watch f t.1.1.0 l t.1.1.1.1.0 t.1.1.1.1.1.0 (t.1.1.1.1.1.1 ∙ ap statement line) (sym (u t.1.1.0) ∙ parts.0) }

    found : IsExit f xs l → has_place halts k ≡ true
    found x =
        let P : List ℕ → Type 0 = λ zs. Contains zs x.event in
        h k ∙ begins_found p f ys k (l, (at, (x.event, (subst P (sym e) (filter_has (has bare) xs x.event (u x.event ∙ ap is_untested_if x.is) x.one), (record { site = statement l; test = None }, (x.is, refl))))))
