-- Steps that may be made in either order, and that change nothing if they are made again, lead to the same over two lists with the same numbers: a step
-- of the list may be made before all of them, and behind all of them it changes nothing.
use Prim.Native.Nat.{ℕ}
use mathlib.Core.Path.{◌≡◌, refl, sym, ap, ◌∙◌, subst}
use mathlib.Core.Bool.{true, false, or-true}
use mathlib.Core.List.{List, [], ◌∷◌}
use lib.Dec.{eqb}
use borrow.Author.Tests.{eq-eqb}
use Rattle.octets.specs.Tests.{clash, Same, same, other, same?}
use Rattle.sequences.specs.Lists.{elem}

elem_first : (a : ℕ) (l : List ℕ) → elem a (a ∷ l) ≡ true
elem_first a l = rw (eq-eqb a a refl)

elem_later : (a b : ℕ) (l : List ℕ) → elem a l ≡ true → elem a (b ∷ l) ≡ true
elem_later a b l h = rw (h, or-true (eqb a b))

module _ {S : Type 0} (next : S → ℕ → S) (May : S → ℕ → Type 0) where
  -- from s the steps of the list may be made one after the other, and lead to e
  abbrev pub Leads : S → List ℕ → S → Type 0
  Leads s [] e = s ≡ e
  Leads s (a ∷ l) e = May s a × Leads (next s a) l e

  module _ (again : (s : S) (a : ℕ) → May s a → May (next s a) a × (next (next s a) a ≡ next s a))
      (swap : (s : S) (a b : ℕ) → May s a → May (next s a) b → May s b × May (next s b) a × (next (next s b) a ≡ next (next s a) b)) where
    first : (a : ℕ) (l : List ℕ) (s e : S) → Leads s l e → elem a l ≡ true → May s a × Leads (next s a) l e
    first a [] s e r h = absurd (clash false h refl)
    first a (b ∷ l) s e (m, r) h = go (first a l (next s b) e r) (same? a b)
      where
        go : (elem a l ≡ true → May (next s b) a × Leads (next (next s b) a) l e) → Same a b → May s a × Leads (next s a) (b ∷ l) e
        go ih (same q p) =
            let (m', f) = again s b m in
            subst (λ (c : ℕ). May s c × Leads (next s c) (b ∷ l) e) (sym p) (m, (m', subst (λ (z : S). Leads z l e) (sym f) r))
        go ih (other q p) =
            let (m', r') = ih (simp q at h) in
            let (ma, mb, f) = swap s b a m m' in (ma, (mb, subst (λ (z : S). Leads z l e) (sym f) r'))

    -- a step that changes nothing changes nothing later
    still : (a : ℕ) (l : List ℕ) (s e : S) → May s a → next s a ≡ s → Leads s l e → next e a ≡ e
    still a [] s e m f r = subst (λ (z : S). next z a ≡ z) r f
    still a (b ∷ l) s e m f (mb, r) =
        let (x, y, g) = swap s a b m (subst (λ (z : S). May z b) (sym f) mb) in still a l (next s b) e y (g ∙ ap (λ (z : S). next z b) f) r

    behind : (a : ℕ) (l : List ℕ) (s e : S) → Leads s l e → elem a l ≡ true → next e a ≡ e
    behind a [] s e r h = absurd (clash false h refl)
    behind a (b ∷ l) s e (m, r) h = go (behind a l (next s b) e r) (same? a b)
      where
        go : (elem a l ≡ true → next e a ≡ e) → Same a b → next e a ≡ e
        go ih (same q p) = let (m', f) = again s b m in subst (λ (c : ℕ). next e c ≡ e) (sym p) (still b l (next s b) e m' f r)
        go ih (other q p) = ih (simp q at h)

    -- some of the steps first, and then all
    within : (l' l : List ℕ) (s e : S) → Leads s l e → ((a : ℕ) → elem a l' ≡ true → elem a l ≡ true) → (z : S) × Leads s l' z × Leads z l e
    within [] l s e r h = (s, refl, r)
    within (a ∷ l') l s e r h =
        let (m, r') = first a l s e r (h a (elem_first a l')) in
        let (z, p, q) = within l' l (next s a) e r' (λ b i. h b (elem_later b a l' i)) in (z, (m, p), q)

    stands : (l : List ℕ) (s e : S) → Leads s l e → ((a : ℕ) → elem a l ≡ true → next s a ≡ s) → s ≡ e
    stands [] s e r h = r
    stands (a ∷ l) s e (m, r) h =
        stands l s e (subst (λ (z : S). Leads z l e) (h a (elem_first a l)) r) (λ b i. h b (elem_later b a l i))

    pub same_end : (l l' : List ℕ) (s e : S) → ((a : ℕ) → elem a l ≡ elem a l') → Leads s l e → Leads s l' e
    same_end l l' s e h r =
        let (z, p, q) = within l' l s e r (λ a i. h a ∙ i) in
        subst (λ (y : S). Leads s l' y) (stands l z e q (λ a i. behind a l' s z p (sym (h a) ∙ i))) p
