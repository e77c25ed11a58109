-- Laws that the proofs about pages cite: the header, and the octets with their filler.
use Prim.Native.Nat.{ℕ, ◌+◌, ◌-◌, ◌*◌, ◌≤◌}
use mathlib.Core.Path.{◌≡◌, refl, sym, ◌∙◌}
use mathlib.Core.List.{List, [], ◌∷◌, ◌++◌, append-nil}
use native.Mathlib.Omega.{arith}
use lib.ListN.{length, take, drop, replicate, length-append, length-take, length-drop, drop_of_length-le}
use lib.Seq.{take_at}
use Rattle.types.specs.declared.Pair.{Pair}
use Rattle.octets.specs.Octets.{pair_of, after_put}
use Rattle.split.specs.Splitting.{content_of, parameter, page_written}
use Rattle.split.specs.Laws.{page_length}
use Rattle.split.specs.Within.{HeaderPut, PageReady, Standing, page_head}
use Rattle.split.proofs.Headers.{header_put}
use borrow.Rule.Slice.PartMut.{put_mid}
use Rattle.split.proofs.Cutting.{fill_stands, two_put}

pub page_head_put : (serial identifier dcs param : ℕ) (d d' : List ℕ) (s i : Pair) → s ≡ pair_of serial → i ≡ pair_of identifier → length d ≡ 88
    → d' ≡ after_put d 0 (s.0 ∷ s.1 ∷ i.0 ∷ i.1 ∷ dcs ∷ param ∷ []) → HeaderPut (page_head serial identifier dcs param) 6 d d'
page_head_put serial identifier dcs param d d' s i e f l g =
    header_put (page_head serial identifier dcs param) d d' 6 refl (omega arith) (rw (e, f) at g)

pub own_short : (own p : List ℕ) (from : ℕ) → own ≡ take 82 (drop from p) → length own ≤ 82
own_short own p from e = rw e (simp length-take (omega arith))

module _ (serial identifier dcs param : ℕ) (p : List ℕ) (total number size : ℕ) (r : PageReady p total number size)
    (own d d₁ d₂ : List ℕ) (lent : length d ≡ size) (h : HeaderPut (page_head serial identifier dcs param) 6 d d₁)
    (o : own ≡ take 82 (drop (82 * (number - 1)) p)) (short : length own ≤ 82) (g : d₂ ≡ after_put d₁ 6 own) where
  both_stand : Standing (page_head serial identifier dcs param ++ own) (6 + length own) d d₂
  both_stand = two_put (page_head serial identifier dcs param) own d d₁ d₂ 6 h (omega (arith, r.lent)) g

  whole : length d₂ ≡ 88
  whole = rw both_stand.stands (simp (length-append, length-drop) (omega (arith, r.lent)))

  -- the header and the octets, with 00 up to the page's end, are the page
  is_page_lem : param ≡ parameter total number
      → (page_head serial identifier dcs param ++ own) ++ replicate (82 - length own) 0 ≡ page_written serial identifier dcs p number
  unfolding page_written content_of
  is_page_lem e = rw (e, o, r.all)

  pub page_stands : (zeros : List ℕ) → param ≡ parameter total number
      → zeros ≡ replicate (length (take (length d₂ - (6 + length own)) (drop (6 + length own) d₂))) 0
      → Standing (page_written serial identifier dcs p number) 88 d (put_mid (6 + length own) (length d₂ - (6 + length own)) d₂ zeros)
  page_stands zeros e z =
      let f : put_mid (6 + length own) (length d₂ - (6 + length own)) d₂ zeros ≡ take (6 + length own) d₂ ++ replicate (length d₂ - (6 + length own)) 0 =
      fill_stands d₂ zeros (6 + length own) (omega (arith, whole)) z in
      let a : take (6 + length own) d₂ ≡ page_head serial identifier dcs param ++ own =
      rw both_stand.stands (take_at (page_head serial identifier dcs param ++ own) _ (6 + length own) (sym both_stand.long)) in
      let b : length d₂ - (6 + length own) ≡ 82 - length own = omega (arith, whole) in
      let c : drop 88 d ≡ [] = drop_of_length-le d {i = 88} (omega (arith, r.lent)) in
      record {
        long = sym (page_length serial identifier dcs p number);
        stands = f ∙ rw (page_length serial identifier dcs p number, c, append-nil, a, b) (is_page_lem e);
      }
