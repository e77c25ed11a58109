-- What the proofs of `copies` search: one law for each return and each turn of a loop, over plain variables. What is written at the place of one entry
-- leaves every other entry as it was; this is said once for octets set and once for octets put.
use Prim.Native.Nat.{ℕ, zero, suc, ◌+◌, ◌-◌, ◌*◌, ◌/◌, ◌%◌, ◌≤◌, ◌<◌}
use mathlib.Core.Path.{◌≡◌, refl, sym, ap, ◌∙◌}
use mathlib.Core.Bool.{Bool, true, false, not, cond, ◌&&◌, ◌||◌}
use mathlib.Core.Logic.{⊎_elim}
use mathlib.Core.List.{List, [], ◌∷◌, ◌++◌, map, append-nil, append_assoc}
use native.Mathlib.Omega.{arith}
use native.Mathlib.Numerals.{add-one, sub-one}
use native.Mathlib.Nat.{eq-or-lt_of_le}
use lib.ListN.{length, take, drop, set, replicate, length-append, length-take, length-drop, length-set, length-replicate, drop_of_length-le}
use lib.Seq.{take-append_seam, take-append-add, drop_at, length-take-le, take-set-le, take-set-lt, drop-set-lt, drop-set-add}
use lib.Dec.{eqb, ltb, leb}
use borrow.Author.Rules.{rules}
use borrow.Author.Tests.{eq-eqb, ne_eqb, lt-ltb, le-ltb, ltb-true, ltb-false, leb-true, leb-false}
use Rattle.octets.specs.Tests.{both, Same, same, other, same?}
use Rattle.octets.specs.Octets.{number_of, pair_of, placed, after_put}
use Rattle.octets.specs.Laws.{length_placed, put_fits, placed_start, placed_next}
use Rattle.types.specs.declared.Pair.{Pair}
use Rattle.types.specs.declared.Key.{Key}
use Rattle.slots.specs.Slots.{aged, closed}
use Rattle.slots.specs.Order.{rank_after}
use Rattle.cells.specs.CellLaws.{read_here, read_before, read_behind}
use Rattle.copies.specs.declared.Change.{Change}
use Rattle.copies.specs.declared.Change.TheVariants.{Touch, Close, Beat}
use Rattle.copies.specs.declared.Gone.{Gone}
use Rattle.copies.specs.declared.Gone.TheVariants.{InSlot, AtLimit}
use Rattle.plain.specs.Entries.{Entry, entry_octets, log_octets, most_entries, entry_in, head_of, log_entry_at, entries_from}
use Rattle.plain.specs.Log.{of_slot, only, without, noted_as, touched, touch, close, living, older, log_after_beat}
use Rattle.plain.specs.Engine.{all_of}
use Rattle.logs.specs.Places.{entry_octets_at}
use Rattle.copies.specs.Copying.{rank_noted, beats_noted, alter, renoted, altered, low, goes, remains, copied, kept_entry, kept_place, part_entry, CanChange, CanKeep, ChangesTo}

-- ---- ranks and counts
module _ (r q : ℕ) where
  pub aged_most : 255 ≤ q → q ≡ rank_after true r q
  aged_most l = rw (le-ltb q 255 l)

  pub aged_moves : q < 255 → not (eqb q 0) && (eqb r 0 || ltb q r) ≡ true → q + 1 ≡ rank_after true r q
  unfolding aged
  aged_moves l m = rw (lt-ltb q 255 l, m, add-one)

  pub aged_stays : q < 255 → not (eqb q 0) && (eqb r 0 || ltb q r) ≡ false → q ≡ rank_after true r q
  unfolding aged
  aged_stays l m = rw (lt-ltb q 255 l, m)

  pub closed_moves : r < q → q - 1 ≡ rank_after false r q
  unfolding closed
  closed_moves l = rw (lt-ltb r q l, sub-one)

  pub closed_stays : q ≤ r → q ≡ rank_after false r q
  unfolding closed
  closed_stays l = rw (le-ltb r q l)

module _ (c : Change) (slot x : ℕ) where
  pub rank_first : (s r : ℕ) → c ≡ Touch s r → slot ≡ s → 1 ≡ rank_noted c slot x
  rank_first s r e h = rw (e, eq-eqb slot s h)

  pub rank_ages : (s r y : ℕ) → c ≡ Touch s r → (slot ≡ s → ⊥) → y ≡ rank_after true r x → y ≡ rank_noted c slot x
  rank_ages s r y e h f = rw (e, ne_eqb slot s h) f

  pub rank_closes : (r y : ℕ) → c ≡ Close r → y ≡ rank_after false r x → y ≡ rank_noted c slot x
  rank_closes r y e f = rw e f

  pub rank_stays : c ≡ Beat → x ≡ rank_noted c slot x
  rank_stays e = rw e

  pub beats_first : (s r : ℕ) → c ≡ Touch s r → slot ≡ s → 0 ≡ beats_noted c slot x
  beats_first s r e h = rw (e, eq-eqb slot s h)

  pub beats_stay : (s r : ℕ) → c ≡ Touch s r → (slot ≡ s → ⊥) → x ≡ beats_noted c slot x
  beats_stay s r e h = rw (e, ne_eqb slot s h)

  pub beats_close : (r : ℕ) → c ≡ Close r → x ≡ beats_noted c slot x
  beats_close r e = rw e

  pub beats_most : c ≡ Beat → 255 ≤ x → x ≡ beats_noted c slot x
  beats_most e l = rw (e, le-ltb x 255 l)

  pub beats_rise : c ≡ Beat → x < 255 → x + 1 ≡ beats_noted c slot x
  beats_rise e l = rw (e, lt-ltb x 255 l, add-one)

-- ---- octets set at the place of an entry
less : {a b : ℕ} → a ≤ b → (a ≡ b → ⊥) → a < b
less {a} {b} h ne = ⊎_elim (λ (q : a ≡ b). absurd (ne q)) (λ (q : a < b). q) (eq-or-lt_of_le h)

set_there : (lent : List ℕ) (i k v j : ℕ) → k < entry_octets → (j ≡ i → ⊥) → log_entry_at (set lent (i * entry_octets + k) v) j ≡ log_entry_at lent j
unfolding log_entry_at
set_there lent i k v j inside ne = ap entry_in (go (ltb j i) refl)
  where
    go : (b : Bool) → ltb j i ≡ b → entry_octets_at (set lent (i * entry_octets + k) v) j ≡ entry_octets_at lent j
    go true e =
        let l : j < i = ltb-true j i e in
        let d : ℕ = i * entry_octets + k - j * entry_octets in
        let s : i * entry_octets + k ≡ j * entry_octets + d = omega arith in
        rw (s, drop-set-add (j * entry_octets) lent d v) (take-set-le entry_octets (drop (j * entry_octets) lent) d v (omega arith))
    go false e =
        let l : i < j = less (ltb-false j i e) (λ q. ne (sym q)) in
        rw (drop-set-lt (j * entry_octets) lent (i * entry_octets + k) v (omega arith))

entry_noted : (o : List ℕ) (r b : ℕ) → 2 < length o → entry_in (set (set o 1 r) 2 b) ≡ noted_as r b (entry_in o)
entry_noted [] r b l = absurd (omega arith)
entry_noted (x ∷ []) r b l = absurd (omega arith)
entry_noted (x ∷ y ∷ []) r b l = absurd (omega arith)
entry_noted (x ∷ y ∷ z ∷ o) r b l = refl

pub note_inside : (lent : List ℕ) (i v : ℕ) → i < most_entries → length lent ≡ log_octets → i * entry_octets + 2 < length (set lent (i * entry_octets + 1) v)
note_inside lent i v l long = rw (length-set lent (i * entry_octets + 1) v) (omega arith)

module _ (lent : List ℕ) (i r b : ℕ) where
  noted_here : i * entry_octets + entry_octets ≤ length lent → log_entry_at (renoted lent i r b) i ≡ noted_as r b (log_entry_at lent i)
  unfolding log_entry_at
  noted_here l =
      rw (drop-set-add (i * entry_octets) (set lent (i * entry_octets + 1) r) 2 b, drop-set-add (i * entry_octets) lent 1 r)
      (rw (take-set-lt entry_octets (set (drop (i * entry_octets) lent) 1 r) 2 b (omega arith), take-set-lt entry_octets (drop (i * entry_octets) lent) 1 r (omega arith))
      (entry_noted (entry_octets_at lent i) r b (simp (length-take, length-drop) (omega arith))))

  noted_there : (j : ℕ) → (j ≡ i → ⊥) → log_entry_at (renoted lent i r b) j ≡ log_entry_at lent j
  noted_there j ne = set_there (set lent (i * entry_octets + 1) r) i 2 b j (omega arith) ne ∙ set_there lent i 1 r j (omega arith) ne

pub alter_told : (c : Change) (lent out : List ℕ) (i slot rank beats r b : ℕ) → slot ≡ (log_entry_at lent i).slot → rank ≡ (log_entry_at lent i).rank
    → beats ≡ (log_entry_at lent i).beats → r ≡ rank_noted c slot rank → b ≡ beats_noted c slot beats → out ≡ renoted lent i r b → out ≡ altered c lent i
unfolding altered
alter_told c lent out i slot rank beats r b p q s t u h = h ∙ rw (t, u, p, q, s)

-- ---- a copy with every entry altered
same_entries : (f : Entry → Entry) (old new : List ℕ) (m b : ℕ) → ((j : ℕ) → b ≤ j → j < b + m → log_entry_at new j ≡ f (log_entry_at old j))
    → entries_from new b m ≡ map f (entries_from old b m)
unfolding entries_from
same_entries f old new zero b h = refl
same_entries f old new (suc m) b h =
    let x = h b (omega arith) (omega arith) in
    let y = same_entries f old new m (suc b) (λ j l k. h j (omega arith) (omega arith)) in
    λ i. x i ∷ y i

-- the entries before i are altered, those from i on are as they were
pub record Alters (c : Change) (old new : List ℕ) (m i : ℕ) : Type 0 where
  pub within : i ≤ m
  pub long : length new ≡ log_octets
  pub done : (j : ℕ) → j < i → log_entry_at new j ≡ alter c (log_entry_at old j)
  pub rest : (j : ℕ) → i ≤ j → log_entry_at new j ≡ log_entry_at old j

module _ (c : Change) (old : List ℕ) (m : ℕ) where
  pub alter_starts : length old ≡ log_octets → Alters c old old m 0
  alter_starts l = record { within = omega arith; long = l; done = λ j k. absurd (omega arith); rest = λ j k. refl }

  module _ (new : List ℕ) (i : ℕ) (g : Alters c old new m i) (most : m ≤ most_entries) (inside : i < m) where
    pub alter_goes_on : (out : List ℕ) → out ≡ altered c new i → Alters c old out m (i + 1)
    unfolding alter altered
    alter_goes_on out e = record {
      within = omega arith;
      long = ap length e ∙ length-set (set new (i * entry_octets + 1) rank) (i * entry_octets + 2) beats ∙ length-set new (i * entry_octets + 1) rank ∙ g.long;
      done = λ j k. rw e (go j k (same? j i));
      rest = λ j k. rw e (noted_there new i rank beats j (λ q. omega arith) ∙ g.rest j (omega arith));
    }
      where
        rank : ℕ
        rank = rank_noted c (log_entry_at new i).slot (log_entry_at new i).rank

        beats : ℕ
        beats = beats_noted c (log_entry_at new i).slot (log_entry_at new i).beats

        go : (j : ℕ) → j < i + 1 → Same j i → log_entry_at (renoted new i rank beats) j ≡ alter c (log_entry_at old j)
        go j k (same t q) = rw q (noted_here new i rank beats (omega (arith, g.long)) ∙ ap (alter c) (g.rest i (omega arith)))
        go j k (other t q) = noted_there new i rank beats j q ∙ g.done j (omega arith)

  pub alter_ends : (new : List ℕ) (i : ℕ) → Alters c old new m i → m ≤ i → entries_from new 0 m ≡ map (alter c) (entries_from old 0 m)
  alter_ends new i g l = same_entries (alter c) old new m 0 (λ j a b. g.done j (omega (arith, g.within)))

-- ---- octets put at the place of an entry
put_there : (lent p : List ℕ) (i j : ℕ) → length p ≤ entry_octets → i * entry_octets + entry_octets ≤ length lent → (j ≡ i → ⊥)
    → log_entry_at (placed lent (i * entry_octets) p) j ≡ log_entry_at lent j
unfolding log_entry_at
put_there lent p i j s l ne = ap entry_in (go (ltb j i) refl)
  where
    go : (b : Bool) → ltb j i ≡ b → entry_octets_at (placed lent (i * entry_octets) p) j ≡ entry_octets_at lent j
    go true e = let q = ltb-true j i e in read_before lent (i * entry_octets) p (omega arith) (j * entry_octets) entry_octets (omega arith)
    go false e = let q : i < j = less (ltb-false j i e) (λ z. ne (sym z)) in read_behind lent (i * entry_octets) p (omega arith) (j * entry_octets) entry_octets (omega arith)

-- an entry copied to another place
module _ (lent : List ℕ) (long : length lent ≡ log_octets) (i to : ℕ) (l : i < most_entries) (k : to < most_entries) where
  octets_long : length (entry_octets_at lent i) ≡ entry_octets
  octets_long = simp (length-take, length-drop) (omega arith)

  copied_long : length (copied lent i to) ≡ log_octets
  unfolding copied
  copied_long = length_placed lent (to * entry_octets) (entry_octets_at lent i) (omega (arith, octets_long)) ∙ long

  copied_here : log_entry_at (copied lent i to) to ≡ log_entry_at lent i
  unfolding copied log_entry_at
  copied_here =
      ap entry_in (ap (λ (n : ℕ). take n (drop (to * entry_octets) (placed lent (to * entry_octets) (entry_octets_at lent i)))) (sym octets_long)
      ∙ read_here lent (to * entry_octets) (entry_octets_at lent i) (omega (arith, octets_long)))

  copied_there : (j : ℕ) → (j ≡ to → ⊥) → log_entry_at (copied lent i to) j ≡ log_entry_at lent j
  unfolding copied
  copied_there j ne = put_there lent (entry_octets_at lent i) to j (omega (arith, octets_long)) (omega arith) ne

pub octets_told : (lent : List ℕ) (i : ℕ) → take (i * entry_octets + entry_octets - i * entry_octets) (drop (i * entry_octets) lent) ≡ entry_octets_at lent i
octets_told lent i = let z : i * entry_octets + entry_octets - i * entry_octets ≡ entry_octets = omega arith in rw z

pub copy_told : (lent p w out : List ℕ) (i to : ℕ) → i < most_entries → to < most_entries → length lent ≡ log_octets → p ≡ entry_octets_at lent i
    → w ≡ after_put (replicate entry_octets 0) 0 p → out ≡ after_put lent (to * entry_octets) w → out ≡ copied lent i to
unfolding copied
copy_told lent p w out i to l k long part f g =
    let o : List ℕ = entry_octets_at lent i in
    let z : List ℕ = replicate entry_octets 0 in
    let n : length o ≡ entry_octets = octets_long lent long i to l k in
    let d : length z ≡ entry_octets = length-replicate {A = ℕ} entry_octets 0 in
    let q : w ≡ o =
    f ∙ ap (λ (x : List ℕ). after_put z 0 x) part ∙ put_fits z 0 o (omega arith) ∙ placed_start z o
    ∙ rw (drop_of_length-le z {i = length o} (omega arith), append-nil o) in
    g ∙ ap (λ (x : List ℕ). after_put lent (to * entry_octets) x) q ∙ put_fits lent (to * entry_octets) o (omega arith)

-- ---- a copy without the entries that go
module _ (g : Gone) (lent : List ℕ) (i : ℕ) where
  pub goes_slot : (slot x : ℕ) → g ≡ InSlot slot → x ≡ (log_entry_at lent i).slot → eqb x slot ≡ goes g (log_entry_at lent i)
  goes_slot slot x e p = rw (e, p)

  pub goes_limit : (limit : ℕ) (b : Bool) → g ≡ AtLimit limit → b ≡ leb limit (suc (log_entry_at lent i).beats) → b ≡ goes g (log_entry_at lent i)
  goes_limit limit b e p = rw e p

  module _ (to : ℕ) (b : Bool) (is : b ≡ goes g (log_entry_at lent i)) where
    pub gone_octets : b ≡ true → lent ≡ kept_entry g lent i to
    gone_octets e = rw (← is, e)

    pub gone_place : b ≡ true → to ≡ kept_place g lent i to
    gone_place e = rw (← is, e)

    pub kept_octets : (out : List ℕ) → b ≡ false → out ≡ copied lent i to → out ≡ kept_entry g lent i to
    kept_octets out e f = rw (← is, e) f

    pub kept_place_lem : b ≡ false → to + 1 ≡ kept_place g lent i to
    kept_place_lem e = rw (← is, e)

-- one entry more
entries_suc : (lent : List ℕ) (m b : ℕ) → entries_from lent b (suc m) ≡ entries_from lent b m ++ log_entry_at lent (b + m) ∷ []
unfolding entries_from
entries_suc lent zero b = let z : b + 0 ≡ b = omega arith in rw z
entries_suc lent (suc m) b =
    let z : suc b + m ≡ b + suc m = omega arith in
    ap (λ (l : List Entry). log_entry_at lent b ∷ l) (entries_suc lent m (suc b) ∙ rw z)

pub entries_more : (lent : List ℕ) (m : ℕ) → entries_from lent 0 (m + 1) ≡ entries_from lent 0 m ++ log_entry_at lent m ∷ []
entries_more lent m = let z : 0 + m ≡ m = omega arith in rw (add-one m) (entries_suc lent m 0 ∙ rw z)

alike : (old new : List ℕ) (m b : ℕ) → ((j : ℕ) → b ≤ j → j < b + m → log_entry_at new j ≡ log_entry_at old j) → entries_from new b m ≡ entries_from old b m
unfolding entries_from
alike old new zero b f = refl
alike old new (suc m) b f =
    let x = f b (omega arith) (omega arith) in
    let y = alike old new m (suc b) (λ j l k. f j (omega arith) (omega arith)) in
    λ i. x i ∷ y i

only_more : (p : Entry → Bool) (log : List Entry) (e : Entry) → only p (log ++ e ∷ []) ≡ only p log ++ cond (p e) (e ∷ []) []
unfolding only
only_more p [] e = refl
only_more p (x ∷ log) e = go (p x) (only_more p log e)
  where
    go : (b : Bool) → only p (log ++ e ∷ []) ≡ only p log ++ cond (p e) (e ∷ []) []
        → cond b (x ∷ only p (log ++ e ∷ [])) (only p (log ++ e ∷ [])) ≡ cond b (x ∷ only p log) (only p log) ++ cond (p e) (e ∷ []) []
    go true ih = ap (λ (l : List Entry). x ∷ l) ih
    go false ih = ih

stays_not : (g : Gone) (e : Entry) → remains g e ≡ not (goes g e)
stays_not (InSlot i) e = refl
stays_not (AtLimit limit) e = refl

-- the entries before i are copied unless they go, to the places before `to`; those from i on are as they were
pub record Leaves (g : Gone) (old new : List ℕ) (m i to : ℕ) : Type 0 where
  pub within : i ≤ m
  pub behind : to ≤ i
  pub long : length new ≡ log_octets
  pub done : entries_from new 0 to ≡ only (remains g) (entries_from old 0 i)
  pub rest : (j : ℕ) → i ≤ j → log_entry_at new j ≡ log_entry_at old j

module _ (g : Gone) (old : List ℕ) (m : ℕ) where
  pub leave_starts : length old ≡ log_octets → Leaves g old old m 0 0
  unfolding entries_from only
  leave_starts l = record { within = omega arith; behind = omega arith; long = l; done = refl; rest = λ j k. refl }

  module _ (new : List ℕ) (i to : ℕ) (w : Leaves g old new m i to) where
    turn : m ≤ most_entries → i < m → (b : Bool) → goes g (log_entry_at new i) ≡ b → Leaves g old (cond b new (copied new i to)) m (i + 1) (cond b to (to + 1))
    turn most l = go
      where
        step : (b : Bool) → goes g (log_entry_at new i) ≡ b → only (remains g) (entries_from old 0 (i + 1)) ≡ entries_from new 0 to ++ cond b [] (log_entry_at new i ∷ [])
        step b e =
            let s : log_entry_at old i ≡ log_entry_at new i = sym (w.rest i (omega arith)) in
            rw (entries_more old i, only_more (remains g) (entries_from old 0 i) (log_entry_at old i), ← w.done, s, stays_not g (log_entry_at new i), e) (flip b)
          where
            flip : (b : Bool) → entries_from new 0 to ++ cond (not b) (log_entry_at new i ∷ []) [] ≡ entries_from new 0 to ++ cond b [] (log_entry_at new i ∷ [])
            flip true = refl
            flip false = refl

        go : (b : Bool) → goes g (log_entry_at new i) ≡ b → Leaves g old (cond b new (copied new i to)) m (i + 1) (cond b to (to + 1))
        go true e = record {
          within = omega arith;
          behind = omega (arith, w.behind);
          long = w.long;
          done = sym (step true e ∙ append-nil (entries_from new 0 to));
          rest = λ j k. w.rest j (omega arith);
        }
        go false e =
            let k : to < most_entries = omega (arith, w.behind) in
            let h : i < most_entries = omega arith in record {
              within = omega arith;
              behind = omega (arith, w.behind);
              long = copied_long new w.long i to h k;
              done =
                  entries_more (copied new i to) to
                  ∙ rw (alike new (copied new i to) to 0 (λ j a c. copied_there new w.long i to h k j (λ q. omega arith)), copied_here new w.long i to h k) (sym (step false e));
              rest = λ j c. copied_there new w.long i to h k j (λ q. omega (arith, w.behind)) ∙ w.rest j (omega arith);
            }

    pub leave_goes_on : m ≤ most_entries → i < m → (out : List ℕ) (at : ℕ) → out ≡ kept_entry g new i to → at ≡ kept_place g new i to → Leaves g old out m (i + 1) at
    leave_goes_on most l out at p q = rw (p, q) (turn most l (goes g (log_entry_at new i)) refl)

    pub place_fits : m ≤ most_entries → i < m → to < most_entries
    place_fits most l = omega (arith, w.behind)

    pub leave_ends : m ≤ i → entries_from new 0 to ≡ only (remains g) (entries_from old 0 m)
    leave_ends l = let z : i ≡ m = omega (arith, w.within) in rw (← z) w.done

    pub leave_fewer : m ≤ i → to ≤ m
    leave_fewer l = omega (arith, w.within, w.behind)

-- ---- an entry written
head_in : (slot : ℕ) (key : Key) (total number : ℕ) (part rest : List ℕ)
    → entry_in (head_of (part_entry slot key total number part) ++ (part ++ rest)) ≡ part_entry slot key total number part
head_in slot key total number part rest =
    let a : number_of (key.sender / 65536 / 256) (key.sender / 65536 % 256) * 65536 + number_of (key.sender % 65536 / 256) (key.sender % 65536 % 256) ≡ key.sender = omega arith in
    let b : number_of (key.reference / 256) (key.reference % 256) ≡ key.reference = omega arith in
    let c : number_of (key.serial.0 / 256) (key.serial.0 % 256) ≡ key.serial.0 = omega arith in
    let d : number_of (key.identifier.0 / 256) (key.identifier.0 % 256) ≡ key.identifier.0 = omega arith in
    let o : take (length part) (part ++ rest) ≡ part = take-append_seam part rest in
    λ i. record {
      slot = slot;
      rank = 1;
      beats = 0;
      key = record { sender = a i; width = key.width; reference = b i; serial = record { 0 = c i }; identifier = record { 0 = d i } };
      total = total;
      number = number;
      size = length part;
      octets = o i;
    }

octets_here : (lent p : List ℕ) (i : ℕ) → length p ≤ entry_octets → i * entry_octets + entry_octets ≤ length lent
    → entry_octets_at (placed lent (i * entry_octets) p) i ≡ p ++ take (entry_octets - length p) (drop (i * entry_octets + length p) lent)
unfolding placed
octets_here lent p i s l =
    let rest : List ℕ = drop (i * entry_octets + length p) lent in
    let whole : entry_octets ≡ length p + (entry_octets - length p) = omega arith in
    ap (take entry_octets) (drop_at (take (i * entry_octets) lent) (p ++ rest) (i * entry_octets) (length-take-le (i * entry_octets) lent (omega arith)))
    ∙ ap (λ (n : ℕ). take n (p ++ rest)) whole ∙ take-append-add p rest (entry_octets - length p)

module _ (slot : ℕ) (key : Key) (total number : ℕ) (part : List ℕ) (short : length part ≤ 134) where
  abbrev new : Entry
  new = part_entry slot key total number part

  put_here : (lent : List ℕ) (i : ℕ) → i * entry_octets + entry_octets ≤ length lent
      → log_entry_at (placed lent (i * entry_octets) (head_of new ++ part)) i ≡ new
  unfolding log_entry_at
  put_here lent i l =
      let p : List ℕ = head_of new ++ part in
      let n : length p ≡ 17 + length part = simp length-append (omega arith) in
      let rest : List ℕ = take (entry_octets - length p) (drop (i * entry_octets + length p) lent) in
      ap entry_in (octets_here lent p i (omega arith) l ∙ append_assoc (head_of new) part rest) ∙ head_in slot key total number part rest

  pub appended : (lent h h₁ out : List ℕ) (i : ℕ) → i < most_entries → length lent ≡ log_octets → h ≡ head_of (part_entry slot key total number part)
      → h₁ ≡ after_put lent (i * entry_octets) h → out ≡ after_put h₁ (i * entry_octets + 17) part
      → entries_from out 0 (i + 1) ≡ entries_from lent 0 i ++ part_entry slot key total number part ∷ []
  appended lent h h₁ out i l long e f g =
      let k : List ℕ = head_of new in
      let a : h₁ ≡ placed lent (i * entry_octets) k = f ∙ ap (λ (x : List ℕ). after_put lent (i * entry_octets) x) e ∙ put_fits lent (i * entry_octets) k (omega arith) in
      let m : length h₁ ≡ log_octets = ap length a ∙ length_placed lent (i * entry_octets) k (omega arith) ∙ long in
      let b : out ≡ placed lent (i * entry_octets) (k ++ part) =
      g ∙ put_fits h₁ (i * entry_octets + 17) part (omega arith) ∙ ap (λ (x : List ℕ). placed x (i * entry_octets + 17) part) a ∙ placed_next lent (i * entry_octets) k part (omega arith) in
      let n : length (k ++ part) ≡ 17 + length part = simp length-append (omega arith) in
      entries_more out i
      ∙ rw b (rw (put_here lent i (omega arith), alike lent (placed lent (i * entry_octets) (k ++ part)) i 0 (λ j c d. put_there lent (k ++ part) i j (omega arith) (omega arith) (λ q. omega arith))))

pub head_told : (slot : ℕ) (key : Key) (total number u l : ℕ) (part : List ℕ) (a b c d e : Pair) → u ≡ key.sender / 65536 → l ≡ key.sender % 65536
    → a ≡ pair_of u → b ≡ pair_of l → c ≡ pair_of key.reference → d ≡ pair_of key.serial.0 → e ≡ pair_of key.identifier.0
    → slot ∷ 1 ∷ 0 ∷ a.0 ∷ a.1 ∷ b.0 ∷ b.1 ∷ key.width ∷ c.0 ∷ c.1 ∷ d.0 ∷ d.1 ∷ e.0 ∷ e.1 ∷ total ∷ number ∷ length part ∷ []
    ≡ head_of (part_entry slot key total number part)
head_told slot key total number u l part a b c d e pu pl pa pb pc pd pe = rw (pa, pb, pc, pd, pe, pu, pl)

-- ---- a series: two copies, one behind the other
low_stay : (p : Entry → Bool) (log : List Entry) → all_of low log ≡ true → all_of low (only p log) ≡ true
unfolding all_of only
low_stay p [] t = refl
low_stay p (e ∷ log) t = go (p e) (both (low e) (all_of low log) t) (low_stay p log)
  where
    go : (b : Bool) → (low e ≡ true) × (all_of low log ≡ true) → (all_of low log ≡ true → all_of low (only p log) ≡ true)
        → all_of low (cond b (e ∷ only p log) (only p log)) ≡ true
    go true (x, y) ih = rw (x, ih y)
    go false (x, y) ih = ih y

-- what is left can be changed as before
left_changes : (p : Entry → Bool) (old new : List ℕ) (m r : ℕ) → length new ≡ length old → r ≤ m → entries_from new 0 r ≡ only p (entries_from old 0 m)
    → CanChange old m → CanChange new r
left_changes p old new m r n l e c = record { long = n ∙ c.long; most = omega (arith, c.most); rise = rw e (low_stay p (entries_from old 0 m) c.rise) }

-- the rules of a series and of a beat, of entries whose rank and count can rise
same_low : (f g : Entry → Entry) (log : List Entry) → all_of low log ≡ true → ((e : Entry) → low e ≡ true → f e ≡ g e) → map f log ≡ map g log
unfolding all_of
same_low f g [] t h = refl
same_low f g (e ∷ log) t h =
    let (x, y) = both (low e) (all_of low log) t in
    let here = h e x in
    let rest = same_low f g log y h in
    λ i. here i ∷ rest i

touch_told : (slot rank : ℕ) (log : List Entry) → all_of low log ≡ true → map (alter (Touch slot rank)) log ≡ touch slot rank log
unfolding alter
touch_told slot rank log t =
    same_low (alter (Touch slot rank)) (touched slot rank) log t (λ e h. rw (both (ltb e.rank 255) (ltb e.beats 255) h).0)

beat_told : (log : List Entry) → all_of low log ≡ true → map (alter Beat) log ≡ map older log
unfolding alter
beat_told log t = same_low (alter Beat) older log t (λ e h. rw (both (ltb e.rank 255) (ltb e.beats 255) h).1)

-- ---- what cannot be changed
module _ (old : List ℕ) (m : ℕ) (new log : List Entry) where
  pub change_short : (length old ≡ log_octets → ⊥) → ChangesTo (CanChange old m) new log
  change_short ne = record { is = λ c. absurd (ne c.long) }

  pub change_many : most_entries < m → ChangesTo (CanChange old m) new log
  change_many l = record { is = λ c. absurd (omega (arith, c.most)) }

  module _ (part : List ℕ) where
    pub keep_short : (length old ≡ log_octets → ⊥) → ChangesTo (CanKeep old m part) new log
    keep_short ne = record { is = λ c. absurd (ne c.change.long) }

    pub keep_many : most_entries < m → ChangesTo (CanKeep old m part) new log
    keep_many l = record { is = λ c. absurd (omega (arith, c.room)) }

    pub keep_full : most_entries ≤ m → ChangesTo (CanKeep old m part) new log
    keep_full l = record { is = λ c. absurd (omega (arith, c.room)) }

    pub keep_large : 134 < length part → ChangesTo (CanKeep old m part) new log
    keep_large l = record { is = λ c. absurd (omega (arith, c.short)) }

-- ---- what is changed
module _ (slot rank m : ℕ) (old new : List ℕ) where
  pub series_touched : entries_from new 0 m ≡ map (alter (Touch slot rank)) (entries_from old 0 m)
      → ChangesTo (CanChange old m) (entries_from new 0 m) (touch slot rank (entries_from old 0 m))
  series_touched p = record { is = λ c. p ∙ touch_told slot rank (entries_from old 0 m) c.rise }

  pub part_kept : (part : List ℕ) (e : Entry) (out : List ℕ) → entries_from new 0 m ≡ map (alter (Touch slot rank)) (entries_from old 0 m)
      → entries_from out 0 (m + 1) ≡ entries_from new 0 m ++ e ∷ []
      → ChangesTo (CanKeep old m part) (entries_from out 0 (m + 1)) (touch slot rank (entries_from old 0 m) ++ e ∷ [])
  part_kept part e out p q =
      record { is = λ c. q ∙ ap (λ (l : List Entry). l ++ e ∷ []) (p ∙ touch_told slot rank (entries_from old 0 m) c.change.rise) }

  module _ (r : ℕ) (left : entries_from new 0 r ≡ without slot (entries_from old 0 m)) where
    pub series_opened : (part : List ℕ) (e : Entry) (more : List Entry) → length new ≡ length old → r ≤ m
        → ChangesTo (CanKeep new r part) more (touch slot rank (entries_from new 0 r) ++ e ∷ [])
        → ChangesTo (CanKeep old m part) more (touch slot rank (without slot (entries_from old 0 m)) ++ e ∷ [])
    series_opened part e more n l h = record {
      is = λ c. let d : CanKeep new r part =
          record { change = left_changes (λ e. not (of_slot slot e)) old new m r n l left c.change; room = omega (arith, c.room); short = c.short } in
          h.is d ∙ ap (λ (l : List Entry). touch slot rank l ++ e ∷ []) left;
    }

    pub series_dropped : (out : List ℕ) → entries_from out 0 r ≡ map (alter (Close rank)) (entries_from new 0 r)
        → ChangesTo (CanChange old m) (entries_from out 0 r) (close rank (without slot (entries_from old 0 m)))
    unfolding alter
    series_dropped out h = record { is = λ c. h ∙ ap (λ (l : List Entry). close rank l) left }

-- a beat
limit_told : (limit b : ℕ) → not (leb limit (suc b)) ≡ ltb (suc b) limit
limit_told limit b = go (leb limit (suc b)) refl
  where
    go : (t : Bool) → leb limit (suc b) ≡ t → not t ≡ ltb (suc b) limit
    go true e = let l = leb-true limit (suc b) e in sym (le-ltb (suc b) limit l)
    go false e = let l = leb-false limit (suc b) e in sym (lt-ltb (suc b) limit l)

only_same : (p q : Entry → Bool) (log : List Entry) → ((e : Entry) → p e ≡ q e) → only p log ≡ only q log
unfolding only
only_same p q [] f = refl
only_same p q (e ∷ log) f = rw (f e, only_same p q log f)

pub log_aged : (limit m r : ℕ) (old new out : List ℕ) → entries_from new 0 r ≡ only (remains (AtLimit limit)) (entries_from old 0 m)
    → entries_from out 0 r ≡ map (alter Beat) (entries_from new 0 r) → all_of low (entries_from old 0 m) ≡ true → entries_from out 0 r ≡ log_after_beat limit (entries_from old 0 m)
unfolding log_after_beat
log_aged limit m r old new out e h t =
    h ∙ beat_told (entries_from new 0 r) (rw e (low_stay (remains (AtLimit limit)) (entries_from old 0 m) t))
    ∙ ap (λ (l : List Entry). map older l) (e ∙ only_same (remains (AtLimit limit)) (living limit) (entries_from old 0 m) (λ e. limit_told limit e.beats))

pub ruleset copy_steps = (
  rules,
  aged_most,
  aged_moves,
  aged_stays,
  closed_moves,
  closed_stays,
  rank_first,
  rank_ages,
  rank_closes,
  rank_stays,
  beats_first,
  beats_stay,
  beats_close,
  beats_most,
  beats_rise,
  note_inside,
  alter_told,
  alter_starts,
  alter_goes_on,
  alter_ends,
  octets_told,
  copy_told,
  goes_slot,
  goes_limit,
  gone_octets,
  gone_place,
  kept_octets,
  kept_place_lem,
  leave_starts,
  leave_goes_on,
  place_fits,
  leave_ends,
  leave_fewer,
  appended,
  head_told,
)

-- what the proofs of a touch and of a part that is kept search
pub ruleset touch_steps = (
  rules,
  change_short,
  change_many,
  series_touched,
)

pub ruleset keep_steps = (
  rules,
  keep_short,
  keep_many,
  keep_full,
  keep_large,
  part_kept,
  series_opened,
)
