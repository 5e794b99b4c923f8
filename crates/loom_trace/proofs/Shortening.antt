-- Short entries with one more entry, or one more beside them.
use Rattle.std.proofs.Common.{ℕ, zero, suc, ◌+◌, ◌-◌, ◌<◌, ◌≤◌, ◌≡◌, List, [], ◌∷◌, ◌++◌, length, get_or, map, Option, Some, None, refl, sym, ap, subst, ◌∙◌, arith}
use Rattle.std.specs.List.{slice_get}
use Rattle.std.proofs.lemmas.List.{get_or_append_left, get_or_push, map_push, length_push}
use Rattle.std.proofs.lemmas.Option.{slice_get-map}
use Rattle.std.specs.Option.{option_map}
use Rattle.loom_trace.specs.declared.entry.Entry.{Entry}
use Rattle.loom_trace.specs.declared.entry.Entry.TheVariants as whole
use Rattle.loom_trace.specs.declared.short_entry.ShortEntry.{ShortEntry}
use Rattle.loom_trace.specs.declared.short_entry.ShortEntry.TheVariants as short
use Rattle.loom_trace.specs.Limits.{entry_limit, control_limit}
use Rattle.loom_trace.specs.ShortEntries.{full_entry, HasFullEntry, HaveFullEntries, HaveRoom}

-- one more entry stands beside

entry_beside : (longs : List Entry) (x : Entry) (s : ShortEntry) → HasFullEntry (length longs) s → full_entry (longs ++ x ∷ []) s ≡ full_entry longs s
entry_beside longs x (short.Long i) h = get_or_append_left longs (x ∷ []) (whole.Asked 0) i h
entry_beside longs x s h = refl

entries_beside : (longs : List Entry) (x : Entry) (ss : List ShortEntry) → HaveFullEntries (length longs) ss → map (full_entry (longs ++ x ∷ [])) ss ≡ map (full_entry longs) ss
entries_beside longs x [] h = refl
entries_beside longs x (s ∷ ss) h = rw (entry_beside longs x s h.0, entries_beside longs x ss h.1) refl

within_more : (n : ℕ) (s : ShortEntry) → HasFullEntry n s → HasFullEntry (n + 1) s
within_more n (short.Long i) h = omega (arith, h)
within_more n s h = h

are_more : (n : ℕ) (ss : List ShortEntry) → HaveFullEntries n ss → HaveFullEntries (n + 1) ss
are_more n [] h = tt
are_more n (s ∷ ss) h = (within_more n s h.0, are_more n ss h.1)

-- one more short entry

within_push : (n : ℕ) (ss : List ShortEntry) (s : ShortEntry) → HaveFullEntries n ss → HasFullEntry n s → HaveFullEntries n (ss ++ s ∷ [])
within_push n [] s h k = (k, tt)
within_push n (x ∷ ss) s h k = (h.0, within_push n ss s h.1 k)

pub entries_short : (longs : List Entry) (ss : List ShortEntry) (s : ShortEntry) (x : Entry) → full_entry longs s ≡ x → map (full_entry longs) (ss ++ s ∷ []) ≡ map (full_entry longs) ss ++ x ∷ []
entries_short longs ss s x e = map_push (full_entry longs) ss s ∙ ap (λ (z : Entry). map (full_entry longs) ss ++ z ∷ []) e

pub room_short : (ss : List ShortEntry) (s : ShortEntry) (longs : List Entry) (room room' long : ℕ) → HaveRoom ss longs room long → HasFullEntry (length longs) s → room ≡ room' + 1 → HaveRoom (ss ++ s ∷ []) longs room' long
room_short ss s longs room room' long h k e = record {
  within = within_push (length longs) ss s h.within k;
  enough = omega (arith, h.enough, e);
  few = omega (arith, h.few, e, length_push ss s);
  few_long = h.few_long;
}

-- one more that stands beside

pub entries_long : (longs : List Entry) (ss : List ShortEntry) (x : Entry) (i : ℕ) → i ≡ length longs → HaveFullEntries (length longs) ss
    → map (full_entry (longs ++ x ∷ [])) (ss ++ short.Long i ∷ []) ≡ map (full_entry longs) ss ++ x ∷ []
entries_long longs ss x i e h =
    entries_short (longs ++ x ∷ []) ss (short.Long i) x (get_or_push longs x (whole.Asked 0) i (sym e))
    ∙ ap (λ (z : List Entry). z ++ x ∷ []) (entries_beside longs x ss h)

pub room_long : (ss : List ShortEntry) (i : ℕ) (longs : List Entry) (x : Entry) (room room' long long' : ℕ) → HaveRoom ss longs room long → i ≡ length longs → room ≡ room' + 1 → long ≡ long' + 1
    → HaveRoom (ss ++ short.Long i ∷ []) (longs ++ x ∷ []) room' long'
room_long ss i longs x room room' long long' h e f g =
    let n : length (longs ++ x ∷ []) ≡ length longs + 1 = length_push longs x in
    record {
      within =
          subst (λ (k : ℕ). HaveFullEntries k (ss ++ short.Long i ∷ [])) (sym n)
          (within_push (length longs + 1) ss (short.Long i) (are_more (length longs) ss h.within) (omega (arith, e)));
      enough = omega (arith, h.enough, f, g);
      few = omega (arith, h.few, f, length_push ss (short.Long i));
      few_long = omega (arith, h.few_long, g, n);
    }

-- the entry at a place

pub within_at : (n : ℕ) (ss : List ShortEntry) (i : ℕ) (s : ShortEntry) → slice_get ss i ≡ Some s → HaveFullEntries n ss → HasFullEntry n s
within_at n [] i s e h = let f : ⊥ = cc in absurd f
within_at n (x ∷ ss) zero s e h = let f : x ≡ s = cc in subst (HasFullEntry n) f h.0
within_at n (x ∷ ss) (suc i) s e h = within_at n ss i s e h.1

pub entry_at : (longs : List Entry) (ss : List ShortEntry) (i : ℕ) (s : ShortEntry) → slice_get ss i ≡ Some s → slice_get (map (full_entry longs) ss) i ≡ Some (full_entry longs s)
entry_at longs ss i s h = slice_get-map (full_entry longs) ss i ∙ ap (λ o. option_map (full_entry longs) o) h
