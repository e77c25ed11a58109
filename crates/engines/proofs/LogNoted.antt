-- From a log that calls lead to, with all counts 0, every log with the same parts in the same order can be made that passes the test: its series are touched
-- by a part that is held, the least recent first, and between two touches come as many beats as their counts differ by.
use Prim.Native.Nat.{ℕ, zero, suc, ◌+◌, ◌-◌, ◌≤◌, ◌<◌}
use mathlib.Core.Path.{◌≡◌, refl, sym, ap, ◌∙◌, subst}
use mathlib.Core.Bool.{Bool, true, false, cond}
use mathlib.Core.List.{List, [], ◌∷◌, map}
use mathlib.Core.Option.{Option, some}
use native.Mathlib.Omega.{arith}
use lib.ListN.{length}
use lib.Dec.{ltb}
use borrow.Author.Tests.{eqb-true, eq-eqb, ltb-true, ltb-false, lt-ltb}
use Rattle.octets.specs.Laws.{same_self}
use Rattle.octets.specs.Octets.{same_octets}
use Rattle.octets.specs.Tests as tests
use Rattle.octets.specs.Tests.{clash, same?}
use Rattle.types.specs.declared.Kind.{Kind}
use Rattle.types.specs.declared.Slot.{Slot}
use Rattle.slots.specs.FrontLaws.{same_key_lem}
use Rattle.slots.specs.RankLaws.{ranks_differ, Aged, free, moves, yields, stays}
use Rattle.slots.proofs.AgedLaws.{aged?}
use Rattle.slots.specs.Slots.{slot_at, held_at, aged}
use Rattle.formed.specs.Formed.{most_beats}
use Rattle.formed.specs.Laws.{Formed}
use Rattle.plain.specs.Entries.{Entry, log_octets}
use Rattle.plain.specs.Log.{first_entry, has_entry, has_key, of_slot, is_part, of_rank, noted_as, touched, touch, living, older, log_after_beat}
use Rattle.plain.specs.Same.{All, nil, cons, Fits, SameLog}
use Rattle.plain.specs.Walks.{is_part_lem, first_tells, Finds, finds_one, finds_none, finds?, has_tells, all_weaker, all_map, all_and}
use Rattle.plain.specs.Copies.{has_key_lem}
use Rattle.plain.specs.Tells.{Ok}
use Rattle.sequences.specs.Runs.{Slots}
use Rattle.engines.proofs.LogReach.{Bringable, Reach, known, reach_part, reach_beat, blank}
use Rattle.engines.proofs.LogShape.{bares, bare_noted, all_same, has_same, some_first, only_all, repeats_log}
use Rattle.engines.proofs.LogTarget.{rank_of, beats_of, count_at, In, all_in, found_in, noted_rank, noted_beats, one_slot, count_here, count_below_lem, count_top, count_missing, no_gap}

module _ (n : ℕ) (good : Slots n) (k : Kind) (lent : List ℕ) (long : length lent ≡ log_octets) (T : List Entry) (ok : All (Ok n k T) T) where
  abbrev ρ : ℕ → ℕ
  ρ i = rank_of n k T i

  abbrev β : ℕ → ℕ
  β i = beats_of n k T i

  abbrev b : ℕ → ℕ
  b t = count_at n k T t

  -- what an entry of either log is, whatever is noted in it
  record Own (x : Entry) : Type 0 where
    brought : Bringable k x.key x.total x.number x.octets
    there : has_entry (of_slot x.slot) T ≡ true
    some_rank_lem : 0 < ρ x.slot
    top : ρ x.slot ≤ n
    few : β x.slot ≤ most_beats

  -- Behind the touches of all ranks above t, c beats before the next: the touched series have their ranks without t, and c less beats than they will; the
  -- others are less recent than these, and have been silent since the beginning.
  record Placed (t c : ℕ) (x : Entry) : Type 0 where
    front : t < ρ x.slot → (x.rank + t ≡ ρ x.slot) × (x.beats + c ≡ β x.slot)
    behind : ρ x.slot ≤ t → x.beats + c ≡ b n

  abbrev Before : ℕ → Entry → Entry → Type 0
  Before t x y = t < ρ y.slot → ρ x.slot ≤ t → y.rank < x.rank

  record Stage (t c : ℕ) (L : List Entry) : Type 0 where
    reach : Reach n good k lent long L
    shape : bares L ≡ bares T
    placed : All (Placed t c) L
    order : All (λ x. All (Before t x) L) L

  module _ (own-T : All Own T) where
    own : (L : List Entry) → bares L ≡ bares T → All Own L
    own L e =
        all_same Own (λ x q. record { brought = q.brought; there = q.there; some_rank_lem = q.some_rank_lem; top = q.top; few = q.few })
        (λ x q. record { brought = q.brought; there = q.there; some_rank_lem = q.some_rank_lem; top = q.top; few = q.few }) T L (sym e) own-T

    -- ---- before the first touch
    start : (L : List Entry) → Reach n good k lent long L → bares L ≡ bares T → All (λ x. x.beats ≡ 0) L → Stage n (b n) L
    start L r e zeros = record {
      reach = r;
      shape = e;
      placed = all_weaker (λ x. Own x × (x.beats ≡ 0)) (Placed n (b n)) L (all_and Own (λ x. x.beats ≡ 0) L (own L e) zeros)
          (λ x q. record { front = λ l. absurd (omega (arith, q.0.top)); behind = λ l. omega (arith, q.1) });
      order = all_weaker Own (λ x. All (Before n x) L) L (own L e) (λ x q. all_weaker Own (Before n x) L (own L e) (λ y o l m. absurd (omega (arith, o.top))));
    }

    -- ---- one beat
    one_beat : (t c : ℕ) (L : List Entry) → Stage t (suc c) L → Stage t c (map older L)
    unfolding log_after_beat
    one_beat t c L s = record {
      reach = reach_beat n good k lent long L s.reach 255 (omega arith) (omega arith) (map older L) all_live;
      shape = bare_noted (λ e. e.rank) (λ e. suc e.beats) L ∙ s.shape;
      placed = all_map (Placed t (suc c)) (Placed t c) older L s.placed
          (λ x q. record { front = λ l. ((q.front l).0, omega (arith, (q.front l).1)); behind = λ l. omega (arith, q.behind l) });
      order = all_map (λ x. All (Before t x) L) (λ x. All (Before t x) (map older L)) older L s.order
          (λ x q. all_map (Before t x) (Before t (older x)) older L q (λ y h. h));
    }
      where
        lives : (x : Entry) → Own x → Placed t (suc c) x → (d : Bool) → ltb t (ρ x.slot) ≡ d → suc x.beats < 255
        lives x o q true e = omega (arith, (q.front (ltb-true t (ρ x.slot) e)).1, o.few)
        lives x o q false e = omega (arith, q.behind (ltb-false t (ρ x.slot) e), count_top n k T ok n)

        all_live : log_after_beat 255 L ≡ map older L
        all_live =
            ap (map older)
            (only_all (living 255) L (all_weaker (λ x. Own x × Placed t (suc c) x) (λ x. living 255 x ≡ true) L (all_and Own (Placed t (suc c)) L (own L s.shape) s.placed)
            (λ x q. lt-ltb (suc x.beats) 255 (lives x q.0 q.1 (ltb t (ρ x.slot)) refl))))

    beats_down : (d t c : ℕ) (L : List Entry) → Stage t (c + d) L → (M : List Entry) × Stage t c M
    beats_down zero t c L s = (L, subst (λ (m : ℕ). Stage t m L) (omega arith) s)
    beats_down (suc d) t c L s = beats_down d t c (map older L) (one_beat t (c + d) L (subst (λ (m : ℕ). Stage t m L) (omega arith) s))

    -- ---- one touch: the series of rank t + 1 in T, of which e is an entry
    module _ (t : ℕ) (e : Entry) (e-in : In n k T e) (rank : e.rank ≡ suc t) (L : List Entry) (s : Stage (suc t) (b (suc t)) L) where
      i : ℕ
      i = e.slot

      here_rank : ρ e.slot ≡ suc t
      here_rank = noted_rank n k T ok e e-in ∙ rank

      c_is : b (suc t) ≡ β e.slot
      c_is = count_here n k T ok e e-in t rank ∙ sym (noted_beats n k T ok e e-in)

      module _ (xs : List Slot) (cells : List ℕ) (w : Formed n k xs) (h : SameLog n xs cells L) where
        record Seen (x : Entry) : Type 0 where
          own_of : Own x
          fits : Fits n xs cells x
          placed : Placed (suc t) (b (suc t)) x
          row : All (Before (suc t) x) L

        all_seen : All Seen L
        all_seen =
            all_weaker (λ x. (Own x × Fits n xs cells x) × (Placed (suc t) (b (suc t)) x × All (Before (suc t) x) L)) Seen L
            (all_and (λ x. Own x × Fits n xs cells x) (λ x. Placed (suc t) (b (suc t)) x × All (Before (suc t) x) L) L
            (all_and Own (Fits n xs cells) L (own L s.shape) h.each) (all_and (Placed (suc t) (b (suc t))) (λ x. All (Before (suc t) x) L) L s.placed s.order))
            (λ x q. record { own_of = q.0.0; fits = q.0.1; placed = q.1.0; row = q.1.1 })

        -- y is the entry of that series that the walk for its key finds
        module _ (y : Entry) (y-seen : Seen y) (mine : y.slot ≡ e.slot) where
          r_pos : 0 < y.rank
          r_pos = y-seen.fits.used

          apart : (x : Entry) → Seen x → (x.slot ≡ y.slot → ⊥) → x.rank ≡ y.rank → ⊥
          apart x q ne z =
              ne (ranks_differ n (λ j. (slot_at xs j).rank) w.ranks x.slot y.slot q.fits.inside y-seen.fits.inside (omega (arith, y-seen.fits.rank, y-seen.fits.used)) (q.fits.rank ∙ z ∙ sym y-seen.fits.rank))

          -- another series has another rank in T
          other_rank : (x : Entry) → Seen x → (x.slot ≡ y.slot → ⊥) → ρ x.slot ≡ suc t → ⊥
          other_rank x q ne z = ne (one_slot n k T ok e e-in x.slot q.own_of.there (z ∙ sym rank) ∙ sym mine)

          behind_y : ρ y.slot ≤ suc t
          behind_y = omega (arith, ap (λ (j : ℕ). ρ j) mine, here_rank)

          -- a series touched before is more recent than it
          nearer : (x : Entry) → All (Before (suc t) y) L → Before (suc t) y x → suc t < ρ x.slot → x.rank < y.rank
          nearer x row f l = f l behind_y

          -- the ranks of the others, behind this touch
          data Moved (x : Entry) : Type 0 where
            closer : x.rank < y.rank → aged y.rank x.rank ≡ suc x.rank → Moved x
            farther : y.rank < x.rank → aged y.rank x.rank ≡ x.rank → Moved x

          moved? : (x : Entry) → Seen x → (x.slot ≡ y.slot → ⊥) → Moved x
          moved? x q ne = go (aged? y.rank x.rank)
            where
              ne' : x.rank ≡ y.rank → ⊥
              ne' = apart x q ne

              used : 0 < x.rank
              used = q.fits.used

              go : Aged y.rank x.rank → Moved x
              go (free z f) = absurd (omega (arith, used))
              go (moves u z l f) = closer l f
              go (yields u z f) = absurd (omega (arith, r_pos))
              go (stays u z l f) = farther (strict (same? x.rank y.rank)) f
                where
                  strict : tests.Same x.rank y.rank → y.rank < x.rank
                  strict (tests.same a p) = absurd (ne' p)
                  strict (tests.other a p) = omega arith

          abbrev now : Entry → Entry
          now x = touched y.slot y.rank x

          -- x is of the series, or not; a series touched before it is nearer
          placed_now : (x : Entry) → Seen x → Before (suc t) y x → tests.Same x.slot y.slot → Placed t (b (suc t)) (now x)
          placed_now x q f (tests.same z p) =
              let here : ρ x.slot ≡ suc t = ap (λ (j : ℕ). ρ j) (p ∙ mine) ∙ here_rank in
              let count : β x.slot ≡ b (suc t) = ap (λ (j : ℕ). β j) (p ∙ mine) ∙ sym c_is in
              rw z (record { front = λ l. (omega (arith, here), omega (arith, count)); behind = λ l. absurd (omega (arith, here)) })
          placed_now x q f (tests.other z ne) =
              rw z (record {
                front = λ l. let m : suc t < ρ x.slot = beyond l in (closer_rank m (moved? x q ne), (q.placed.front m).1);
                behind = λ l. q.placed.behind (omega arith);
              })
            where
              beyond : t < ρ x.slot → suc t < ρ x.slot
              beyond l = strict (same? (ρ x.slot) (suc t))
                where
                  strict : tests.Same (ρ x.slot) (suc t) → suc t < ρ x.slot
                  strict (tests.same a p) = absurd (other_rank x q ne p)
                  strict (tests.other a p) = omega arith

              closer_rank : suc t < ρ x.slot → Moved x → aged y.rank x.rank + t ≡ ρ x.slot
              closer_rank m (closer l g) = omega (arith, (q.placed.front m).0)
              closer_rank m (farther l g) = absurd (omega (arith, f m behind_y))

          -- of two series, the one touched is more recent than the one that is not
          order_now : (x : Entry) → Seen x → (z : Entry) → Seen z → Before (suc t) x z → Before (suc t) y z → tests.Same x.slot y.slot → tests.Same z.slot y.slot → Before t (now x) (now z)
          order_now x qx z qz f g (tests.same a p) sz l m = absurd (omega (arith, ap (λ (j : ℕ). ρ j) (p ∙ mine), here_rank))
          order_now x qx z qz f g (tests.other a ne) (tests.same c p) l m = rw (a, c) (go (moved? x qx ne))
            where
              used : 0 < x.rank
              used = qx.fits.used

              go : Moved x → 1 < aged y.rank x.rank
              go (closer l e) = omega (arith, used)
              go (farther l e) = omega (arith, r_pos)
          order_now x qx z qz f g (tests.other a ne) (tests.other c nz) l m = rw (a, c) (go (strict (same? (ρ z.slot) (suc t))) (moved? x qx ne) (moved? z qz nz))
            where
              strict : tests.Same (ρ z.slot) (suc t) → suc t < ρ z.slot
              strict (tests.same a p) = absurd (other_rank z qz nz p)
              strict (tests.other a p) = omega arith

              go : suc t < ρ z.slot → Moved x → Moved z → aged y.rank z.rank < aged y.rank x.rank
              go v (closer l e) (closer l' e') = omega (arith, f v (omega arith))
              go v (farther l e) (closer l' e') = omega arith
              go v x' (farther l' e') = absurd (omega (arith, g v behind_y))

          touched_stage : Reach n good k lent long (touch y.slot y.rank L) → Stage t (b (suc t)) (touch y.slot y.rank L)
          touched_stage r = record {
            reach = r;
            shape = bare_noted (λ x. cond (of_slot y.slot x) 1 (aged y.rank x.rank)) (λ x. cond (of_slot y.slot x) 0 x.beats) L ∙ s.shape;
            placed = all_map (λ x. Seen x × Before (suc t) y x) (Placed t (b (suc t))) now L (all_and Seen (Before (suc t) y) L all_seen y-seen.row)
                (λ x q. placed_now x q.0 q.1 (same? x.slot y.slot));
            order = all_map Seen (λ x. All (Before t x) (touch y.slot y.rank L)) now L all_seen
                (λ x qx. all_map (λ z. (Seen z × Before (suc t) x z) × Before (suc t) y z) (Before t (now x)) now L
                (all_and (λ z. Seen z × Before (suc t) x z) (Before (suc t) y) L (all_and Seen (Before (suc t) x) L all_seen qx.row) y-seen.row)
                (λ z q. order_now x qx z q.0.0 q.0.1 q.1 (same? x.slot y.slot) (same? z.slot y.slot)));
          }

        -- the call: some part of the series comes again
        -- entries of one key are of one slot, and agree in total and octets
        one_slot_of : (x y : Entry) → Fits n xs cells x → Fits n xs cells y → has_key x.key y ≡ true → y.slot ≡ x.slot
        one_slot_of x y f g t =
            w.keys y.slot x.slot g.inside f.inside (omega (arith, g.rank, g.used)) (omega (arith, f.rank, f.used)) (g.key ∙ same_key_lem y.key x.key t ∙ sym f.key)

        again : (x y p : Entry) → Fits n xs cells x → Fits n xs cells p → y.slot ≡ x.slot → is_part y.slot x.number p ≡ true → same_octets p.octets x.octets ≡ true
        again x y p f g e t =
            let (ps, pn) = is_part_lem y.slot x.number p t in
            let is : p.octets ≡ x.octets = sym g.octets ∙ rw (ps, pn, e) f.octets in
            subst (λ (o : List ℕ). same_octets p.octets o ≡ true) is (same_self p.octets)

        repeated : (x : Entry) → Seen x → x.slot ≡ e.slot → (y : Entry) → first_entry (has_key x.key) L ≡ some y → Seen y → y.slot ≡ x.slot
            → (p : Entry) → first_entry (is_part y.slot x.number) L ≡ some p → same_octets p.octets x.octets ≡ true → (M : List Entry) × Stage t (b (suc t)) M
        repeated x qx px y found qy e_slot p fp a =
            let total : y.total ≡ x.total = sym qy.fits.total ∙ ap (λ (j : ℕ). (slot_at xs j).total) e_slot ∙ qx.fits.total in (
              touch y.slot y.rank L,
              touched_stage y qy (e_slot ∙ px)
                  (reach_part n good k lent long L s.reach x.key x.total x.number x.octets qx.own_of.brought (touch y.slot y.rank L)
                  (repeats_log n k L blank x.key x.total x.number x.octets y found (eq-eqb y.total x.total total) p fp a)),
            )

        with_key_lem : (x : Entry) → Seen x → x.slot ≡ e.slot → (y : Entry) → first_entry (has_key x.key) L ≡ some y → Seen y → has_key x.key y ≡ true → (M : List Entry) × Stage t (b (suc t)) M
        with_key_lem x qx px y found qy t-key =
            let e_slot : y.slot ≡ x.slot = one_slot_of x y qx.fits qy.fits t-key in
            let held : held_at (slot_at xs y.slot) x.number ≡ true = ap (λ (j : ℕ). held_at (slot_at xs j) x.number) e_slot ∙ qx.fits.held in
            let (p, fp) = some_first (is_part y.slot x.number) L (h.back y.slot x.number qy.fits.inside qx.fits.low qx.fits.high held) in
            let (g, tp) = first_tells (Fits n xs cells) (is_part y.slot x.number) L h.each p fp in
            repeated x qx px y found qy e_slot p fp (again x y p qx.fits g e_slot tp)

        with_entry_lem : (x : Entry) → Seen x → x.slot ≡ e.slot → (M : List Entry) × Stage t (b (suc t)) M
        with_entry_lem x qx px =
            let f = qx.fits in
            let (y, found) = some_first (has_key x.key) L (has_key_lem n k xs cells L w h x.slot f.inside (omega (arith, f.rank, f.used)) x.key f.key) in
            let (qy, ky) = first_tells Seen (has_key x.key) L all_seen y found in
            with_key_lem x qx px y found qy ky

        touch_call : (M : List Entry) × Stage t (b (suc t)) M
        touch_call =
            let (x, qx, ex) = has_tells Seen (of_slot e.slot) L all_seen (has_same (of_slot e.slot) (λ z. refl) L T s.shape ∙ e-in.slot_there) in
            with_entry_lem x qx (eqb-true x.slot e.slot ex)

      one_touch : (M : List Entry) × Stage t (b (suc t)) M
      one_touch = let (xs, cells, w, h) = known n good k lent long L s.reach in touch_call xs cells w h

    -- ---- all of them
    next : (t : ℕ) (L : List Entry) → Stage (suc t) (b (suc t)) L → (M : List Entry) × Stage t (b t) M
    next t L s = go (first_entry (of_rank (suc t)) T) (finds? (of_rank (suc t)) T)
      where
        go : (r : Option Entry) → Finds (of_rank (suc t)) T r → (M : List Entry) × Stage t (b t) M
        go r (finds_one e q) =
            let (d, z) = first_tells (In n k T) (of_rank (suc t)) T (all_in n k T ok) e q in
            let rank : e.rank ≡ suc t = eqb-true e.rank (suc t) z in
            let (M, m) = one_touch t e d rank L s in
            let less : b t ≤ b (suc t) = omega (arith, count_here n k T ok e d t rank, count_below_lem n k T ok e d t (omega arith)) in
            down less M m
          where
            down : b t ≤ b (suc t) → (M : List Entry) → Stage t (b (suc t)) M → (N : List Entry) × Stage t (b t) N
            down less M m = let (d, e) = gap less in beats_down d t (b t) M (subst (λ (c : ℕ). Stage t c M) e m)
              where
                gap : b t ≤ b (suc t) → (d : ℕ) × (b (suc t) ≡ b t + d)
                gap l = (b (suc t) - b t, omega arith)
        go r (finds_none q) = (
          L,
          record {
            reach = s.reach;
            shape = s.shape;
            placed = all_weaker (λ x. Own x × Placed (suc t) (b (suc t)) x) (Placed t (b t)) L (all_and Own (Placed (suc t) (b (suc t))) L (own L s.shape) s.placed)
                (λ x p. record { front = λ l. absurd (nobody x p.0 l); behind = λ l. omega (arith, p.1.behind (omega arith), same_count) });
            order = all_weaker Own (λ x. All (Before t x) L) L (own L s.shape) (λ x o. all_weaker Own (Before t x) L (own L s.shape) (λ y p l m. absurd (nobody y p l)));
          },
        )
          where
            same_count : b (suc t) ≡ b t
            same_count = count_missing n k T ok t q

            nobody : (x : Entry) → Own x → t < ρ x.slot → ⊥
            nobody x o l =
                let (e, d, z) = found_in n k T ok (of_slot x.slot) o.there in
                let r : ρ x.slot ≡ e.rank = ap (λ (j : ℕ). ρ j) (sym (eqb-true e.slot x.slot z)) ∙ noted_rank n k T ok e d in
                clash (has_entry (of_rank (suc t)) T) (no_gap n k T ok (e.rank - suc t) t e d (omega arith)) q

    all_ranks : (t : ℕ) (L : List Entry) → Stage t (b t) L → (M : List Entry) × Stage 0 (b 0) M
    all_ranks zero L s = (L, s)
    all_ranks (suc t) L s = let (M, m) = next t L s in all_ranks t M m

    -- ---- then nothing is left to differ
    abbrev note_by : Entry → Entry
    note_by e = noted_as (ρ e.slot) (β e.slot) e

    by_bares : (L : List Entry) → map note_by (bares L) ≡ map note_by L
    by_bares [] = refl
    by_bares (e ∷ L) = ap (λ (l : List Entry). note_by e ∷ l) (by_bares L)

    as_noted : (L : List Entry) → All (λ e. (ρ e.slot ≡ e.rank) × (β e.slot ≡ e.beats)) L → map note_by L ≡ L
    as_noted [] nil = refl
    as_noted (e ∷ L) (cons (p, q) t) = let ih = as_noted L t in λ i. noted_as (p i) (q i) e ∷ ih i

    ends : (L : List Entry) → Stage 0 0 L → L ≡ T
    ends L s =
        sym (as_noted L (all_weaker (λ x. Own x × Placed 0 0 x) (λ e. (ρ e.slot ≡ e.rank) × (β e.slot ≡ e.beats)) L (all_and Own (Placed 0 0) L (own L s.shape) s.placed)
        (λ x q. (omega (arith, (q.1.front q.0.some_rank_lem).0), omega (arith, (q.1.front q.0.some_rank_lem).1)))))
        ∙ sym (by_bares L) ∙ ap (map note_by) s.shape ∙ by_bares T
        ∙ as_noted T (all_weaker (In n k T) (λ e. (ρ e.slot ≡ e.rank) × (β e.slot ≡ e.beats)) T (all_in n k T ok) (λ e d. (noted_rank n k T ok e d, noted_beats n k T ok e d)))

    noted_as_lem : (L : List Entry) → Reach n good k lent long L → bares L ≡ bares T → All (λ x. x.beats ≡ 0) L → Reach n good k lent long T
    unfolding count_at
    noted_as_lem L r e zeros =
        let (M, m) = all_ranks n L (start L r e zeros) in
        subst (Reach n good k lent long) (ends M m) m.reach

  -- each entry of T can be brought
  pub make_noted : All (λ e. Bringable k e.key e.total e.number e.octets) T
      → (L : List Entry) → Reach n good k lent long L → bares L ≡ bares T → All (λ x. x.beats ≡ 0) L → Reach n good k lent long T
  make_noted br L r e zeros =
      noted_as_lem (all_weaker (λ e. Bringable k e.key e.total e.number e.octets × In n k T e) Own T (all_and (λ e. Bringable k e.key e.total e.number e.octets) (In n k T) T br (all_in n k T ok))
      (λ e q. record {
        brought = q.0;
        there = q.1.slot_there;
        some_rank_lem = omega (arith, noted_rank n k T ok e q.1, q.1.ok.used);
        top = omega (arith, noted_rank n k T ok e q.1, q.1.ok.top);
        few = omega (arith, noted_beats n k T ok e q.1, q.1.ok.beats);
      })) L r e zeros
