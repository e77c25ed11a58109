-- Of a log that passes the test: what is noted of each slot, and the counts by rank.
use Prim.Native.Nat.{ℕ, zero, suc, ◌+◌, ◌-◌, ◌≤◌, ◌<◌}
use mathlib.Core.Path.{◌≡◌, refl, sym, ap, ◌∙◌, subst}
use mathlib.Core.Bool.{Bool, true, false, cond}
use mathlib.Core.List.{List, [], ◌∷◌}
use mathlib.Core.Option.{Option, none, some}
use native.Mathlib.Omega.{arith}
use borrow.Author.Tests.{eqb-true, eq-eqb, ne_eqb}
use Rattle.octets.specs.Tests as tests
use Rattle.octets.specs.Tests.{clash, same?}
use Rattle.types.specs.declared.Kind.{Kind}
use Rattle.formed.specs.Formed.{most_beats}
use Rattle.plain.specs.Entries.{Entry}
use Rattle.plain.specs.Log.{first_entry, is_some, has_entry, of_slot, of_rank}
use Rattle.plain.specs.Engine.{against}
use Rattle.plain.specs.Same.{All, nil, cons}
use Rattle.plain.specs.Walks.{first_tells, Finds, finds_one, finds_none, finds?, has_tells, none_all, all_and, all_weaker}
use Rattle.plain.specs.Tells.{Ok, agreeing, differing}
use Rattle.engines.proofs.LogShape.{none_first}

-- each entry passes its own walk
all_own : (p : Entry → Entry → Bool) → ((e : Entry) → p e e ≡ true) → (log : List Entry) → All (λ e. has_entry (p e) log ≡ true) log
unfolding first_entry
all_own p self [] = nil
all_own p self (x ∷ log) =
    cons {e = x} (rw (self x)) (all_weaker (λ e. has_entry (p e) log ≡ true) (λ e. has_entry (p e) (x ∷ log) ≡ true) log (all_own p self log) (λ e h. more (p e x) (first_entry (p e) log) h))
  where
    more : (b : Bool) (r : Option Entry) → is_some r ≡ true → is_some (cond b (some x) r) ≡ true
    more true r h = refl
    more false r h = h

-- ---- what is noted, by slot; the counts, by rank
abbrev rank_in : Option Entry → ℕ
rank_in none = 0
rank_in (some e) = e.rank

abbrev beats_in : Option Entry → ℕ
beats_in none = 0
beats_in (some e) = e.beats

abbrev beats_or : ℕ → Option Entry → ℕ
beats_or d none = d
beats_or d (some e) = e.beats

module _ (n : ℕ) (k : Kind) (T : List Entry) where
  unfoldable pub rank_of : ℕ → ℕ
  rank_of i = rank_in (first_entry (of_slot i) T)

  unfoldable pub beats_of : ℕ → ℕ
  beats_of i = beats_in (first_entry (of_slot i) T)

  -- the count of the series of rank t, or of the next more recent one
  unfoldable pub count_at : ℕ → ℕ
  count_at zero = 0
  count_at (suc t) = beats_or (count_at t) (first_entry (of_rank (suc t)) T)

  pub record In (e : Entry) : Type 0 where
    pub ok : Ok n k T e
    pub slot_there : has_entry (of_slot e.slot) T ≡ true
    pub rank_there : has_entry (of_rank e.rank) T ≡ true

  module _ (ok : All (Ok n k T) T) where
    pub all_in : All In T
    all_in =
        all_weaker (λ e. Ok n k T e × ((has_entry (of_slot e.slot) T ≡ true) × (has_entry (of_rank e.rank) T ≡ true))) In T
        (all_and (Ok n k T) (λ e. (has_entry (of_slot e.slot) T ≡ true) × (has_entry (of_rank e.rank) T ≡ true)) T ok
        (all_and (λ e. has_entry (of_slot e.slot) T ≡ true) (λ e. has_entry (of_rank e.rank) T ≡ true) T
        (all_own (λ e. of_slot e.slot) (λ e. eq-eqb e.slot e.slot refl) T) (all_own (λ e. of_rank e.rank) (λ e. eq-eqb e.rank e.rank refl) T)))
        (λ e f. record { ok = f.0; slot_there = f.1.0; rank_there = f.1.1 })

    -- all entries, as e sees them
    seen : (e : Entry) → In e → All (λ x. In x × (against e x ≡ false)) T
    seen e i = all_and In (λ x. against e x ≡ false) T all_in (none_all (against e) T i.ok.alone)

    pub found_in : (p : Entry → Bool) → has_entry p T ≡ true → (e : Entry) × In e × (p e ≡ true)
    found_in p h = has_tells In p T all_in h

    pub noted_rank : (e : Entry) → In e → rank_of e.slot ≡ e.rank
    unfolding rank_of
    noted_rank e i = go (first_entry (of_slot e.slot) T) (finds? (of_slot e.slot) T)
      where
        go : (r : Option Entry) → Finds (of_slot e.slot) T r → rank_in r ≡ e.rank
        go r (finds_one x q) = let (a, t) = first_tells (λ x. In x × (against e x ≡ false)) (of_slot e.slot) T (seen e i) x q in (agreeing e x a.1 (eqb-true x.slot e.slot t)).rank
        go r (finds_none q) = absurd (clash (has_entry (of_slot e.slot) T) i.slot_there q)

    pub noted_beats : (e : Entry) → In e → beats_of e.slot ≡ e.beats
    unfolding beats_of
    noted_beats e i = go (first_entry (of_slot e.slot) T) (finds? (of_slot e.slot) T)
      where
        go : (r : Option Entry) → Finds (of_slot e.slot) T r → beats_in r ≡ e.beats
        go r (finds_one x q) = let (a, t) = first_tells (λ x. In x × (against e x ≡ false)) (of_slot e.slot) T (seen e i) x q in (agreeing e x a.1 (eqb-true x.slot e.slot t)).beats
        go r (finds_none q) = absurd (clash (has_entry (of_slot e.slot) T) i.slot_there q)

    -- no two slots have one rank
    pub one_slot : (e : Entry) → In e → (i : ℕ) → has_entry (of_slot i) T ≡ true → rank_of i ≡ e.rank → i ≡ e.slot
    one_slot e d i h q =
        let (x, (a, b), t) = has_tells (λ x. In x × (against e x ≡ false)) (of_slot i) T (seen e d) h in
        let p : x.slot ≡ i = eqb-true x.slot i t in
        go x (sym p) (same? x.slot e.slot) b (sym (noted_rank x a) ∙ ap rank_of p ∙ q)
      where
        go : (x : Entry) → i ≡ x.slot → tests.Same x.slot e.slot → against e x ≡ false → x.rank ≡ e.rank → i ≡ e.slot
        go x p (tests.same z s) b r = p ∙ s
        go x p (tests.other z ne) b r = absurd ((differing e x b ne).rank r)

    pub count_here : (e : Entry) → In e → (t : ℕ) → e.rank ≡ suc t → count_at (suc t) ≡ e.beats
    unfolding count_at
    count_here e i t q = go (first_entry (of_rank (suc t)) T) (finds? (of_rank (suc t)) T)
      where
        by : (x : Entry) → against e x ≡ false → x.rank ≡ e.rank → tests.Same x.slot e.slot → x.beats ≡ e.beats
        by x b r (tests.same z s) = (agreeing e x b s).beats
        by x b r (tests.other z ne) = absurd ((differing e x b ne).rank r)

        go : (r : Option Entry) → Finds (of_rank (suc t)) T r → beats_or (count_at t) r ≡ e.beats
        go r (finds_one x p) =
            let (a, s) = first_tells (λ x. In x × (against e x ≡ false)) (of_rank (suc t)) T (seen e i) x p in
            by x a.1 (eqb-true x.rank (suc t) s ∙ sym q) (same? x.slot e.slot)
        go r (finds_none p) = absurd (clash (has_entry (of_rank (suc t)) T) (subst (λ (m : ℕ). has_entry (of_rank m) T ≡ true) q i.rank_there) p)

    pub count_below_lem : (e : Entry) → In e → (t : ℕ) → t < e.rank → count_at t ≤ e.beats
    unfolding count_at
    count_below_lem e i zero l = omega arith
    count_below_lem e i (suc t) l = go (first_entry (of_rank (suc t)) T) (finds? (of_rank (suc t)) T) (count_below_lem e i t)
      where
        by : (x : Entry) → against e x ≡ false → x.rank ≡ suc t → tests.Same x.slot e.slot → x.beats ≤ e.beats
        by x b r (tests.same z s) = absurd (omega (arith, (agreeing e x b s).rank))
        by x b r (tests.other z ne) = (differing e x b ne).follow (omega arith)

        go : (r : Option Entry) → Finds (of_rank (suc t)) T r → (t < e.rank → count_at t ≤ e.beats) → beats_or (count_at t) r ≤ e.beats
        go r (finds_one x p) ih =
            let (a, s) = first_tells (λ x. In x × (against e x ≡ false)) (of_rank (suc t)) T (seen e i) x p in
            by x a.1 (eqb-true x.rank (suc t) s) (same? x.slot e.slot)
        go r (finds_none p) ih = ih (omega arith)

    pub count_top : (t : ℕ) → count_at t ≤ most_beats
    unfolding count_at
    count_top zero = omega arith
    count_top (suc t) = go (first_entry (of_rank (suc t)) T) (finds? (of_rank (suc t)) T) (count_top t)
      where
        go : (r : Option Entry) → Finds (of_rank (suc t)) T r → count_at t ≤ most_beats → beats_or (count_at t) r ≤ most_beats
        go r (finds_one x p) ih = (first_tells In (of_rank (suc t)) T all_in x p).0.ok.beats
        go r (finds_none p) ih = ih

    pub count_missing : (t : ℕ) → has_entry (of_rank (suc t)) T ≡ false → count_at (suc t) ≡ count_at t
    unfolding count_at
    count_missing t h = ap (λ (r : Option Entry). beats_or (count_at t) r) (none_first (of_rank (suc t)) T h)

    -- no rank is missing below another
    pub no_gap : (d t : ℕ) (e : Entry) → In e → e.rank ≡ suc t + d → has_entry (of_rank (suc t)) T ≡ true
    no_gap zero t e i q = subst (λ (m : ℕ). has_entry (of_rank m) T ≡ true) (omega arith) i.rank_there
    no_gap (suc d) t e i q =
        let g : has_entry (of_rank (e.rank - 1)) T ≡ true = simp (ne_eqb e.rank 1 (λ z. omega arith)) at i.ok.gap in
        let (x, a, s) = found_in (of_rank (e.rank - 1)) g in
        no_gap d t x a (eqb-true x.rank (e.rank - 1) s ∙ omega arith)
