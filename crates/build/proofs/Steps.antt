-- What the proofs of `build` cite: one law for each return, over plain variables.
use Rattle.std.specs.declared.result.Result.{Result}
use Rattle.std.specs.declared.result.Result.TheVariants.{Ok, Err}
use Prim.Native.Nat.{ℕ, ◌+◌, ◌-◌, ◌%◌, ◌≤◌, ◌<◌}
use mathlib.Core.Path.{◌≡◌, refl, sym, ap, ◌∙◌}
use mathlib.Core.Bool.{Bool, true, false, ◌||◌}
use mathlib.Core.List.{List, [], ◌∷◌, ◌++◌, append-nil, append_assoc}
use native.Mathlib.Omega.{arith}
use lib.ListN.{length, get_or, drop, length-append, length-drop, get_or-append}
use lib.Seq.{get_or-drop}
use lib.Dec.{ltb}
use borrow.Author.Rules.{rules}
use borrow.Author.Tests.{ltb-false}
use Rattle.types.specs.declared.Pair.{Pair}
use Rattle.octets.specs.Octets.{pair_of, placed, after_put}
use Rattle.octets.specs.Laws.{put_fits, length_placed, placed_start, placed_next}
use Rattle.types.specs.declared.Kind.{Kind}
use Rattle.types.specs.declared.Refusal.{Refusal}
use Rattle.types.specs.Refusals.{refused, gives, refusal_number, Lent, lent, writes}
use Rattle.packet.specs.Packets.{before, least, Fields, plain, ciphered, packet_from, packet_of, against_spi, against_bits, against_check, misfit, building, built}
use Rattle.packet.specs.Laws.{before_some, before_least, least_most}
use Rattle.octets.specs.Tests.{neither}
use Rattle.build.specs.Within.{against_octet, outside, ruled, told_ruling, tried}
use Rattle.packet.specs.Judging.{and_then}
use Rattle.build.specs.Laws.{ruled_then, allowed, against_is}

-- ---- writing
pub lengths_set : (h o : List ℕ) (c : Pair) (n header : ℕ) → 3 ≤ length h → c ≡ pair_of n → o ≡ after_put h 0 (c.0 ∷ c.1 ∷ header ∷ [])
    → o ≡ (pair_of n).0 ∷ (pair_of n).1 ∷ header ∷ drop 3 h
lengths_set h o c n header l e f =
    f ∙ put_fits h 0 (c.0 ∷ c.1 ∷ header ∷ []) l ∙ placed_start h (c.0 ∷ c.1 ∷ header ∷ []) ∙ rw e

pub filled : (d h f b x y z : List ℕ) (at : ℕ) → at + (length h + (length f + length b)) ≤ length d → x ≡ after_put d at h → y ≡ after_put x (at + length h) f
    → z ≡ after_put y (at + length h + length f) b → z ≡ placed d at (h ++ (f ++ b))
filled d h f b x y z at room p q r =
    let u : x ≡ placed d at h = p ∙ put_fits d at h (omega arith) in
    let m : length x ≡ length d = ap length u ∙ length_placed d at h (omega arith) in
    let v : y ≡ placed d at (h ++ f) = q ∙ put_fits x (at + length h) f (omega arith) ∙ rw u (placed_next d at h f (omega arith)) in
    let o : length (h ++ f) ≡ length h + length f = length-append h f in
    let n : length y ≡ length d = ap length v ∙ length_placed d at (h ++ f) (omega arith) in
    let a : at + length h + length f ≡ at + length (h ++ f) = omega arith in
    let w : z ≡ placed d at ((h ++ f) ++ b) =
    r ∙ put_fits y (at + length h + length f) b (omega arith) ∙ rw (a, v) (placed_next d at (h ++ f) b (omega arith)) in
    rw append_assoc at w

module _ (d h f b : List ℕ) (header : ℕ) (room : 3 ≤ length h) where
  abbrev rest : List ℕ
  rest = drop 3 h ++ (f ++ b)

  long : length rest ≡ length h + (length f + length b) - 3
  long = simp (length-append, length-drop) (omega arith)

  size_is : length (packet_from header rest) ≡ length h + (length f + length b)
  size_is = omega (arith, long)

  pub whole_written : (g o : List ℕ)
      → g ≡ (pair_of (length h + (length f + length b) - 2)).0 ∷ (pair_of (length h + (length f + length b) - 2)).1 ∷ header ∷ drop 3 h
      → o ≡ placed d 0 (g ++ (f ++ b))
      → lent (gives (length h + (length f + length b))) o ≡ writes (gives (packet_from header rest)) d
  whole_written g o e i =
      let n : length h + (length f + length b) - 2 ≡ 1 + length rest = omega (arith, long) in
      let q : g ++ (f ++ b) ≡ packet_from header rest = rw (e, n) in
      rw (i, q, placed_start d (packet_from header rest), size_is)

-- ---- either body
module _ (d h f b : List ℕ) (a m u l : Bool) (s : l ≡ ltb 2142 (length h + (length f + length b))) (j : Result Unit Refusal)
    (e : told_ruling j ≡ ruled 2142 (length d) a m u l (gives 0)) where
  module _ (t : j ≡ (Ok tt)) where
    pub allowed_buffer : length d ≡ 2142
    allowed_buffer = (allowed 2142 (length d) a m u l (sym (ap told_ruling t) ∙ e)).0

    pub allowed_size : length h + (length f + length b) ≤ 2142
    allowed_size =
        ltb-false 2142 (length h + (length f + length b)) (sym s ∙ (allowed 2142 (length d) a m u l (sym (ap told_ruling t) ∙ e)).1)

  module _ (room : 4 ≤ length h) (n : ℕ) where
    abbrev the_packet : List ℕ
    the_packet = packet_from n (drop 3 h ++ (f ++ b))

    as_ruled : tried a m u the_packet d ≡ writes (and_then (told_ruling j) (gives the_packet)) d
    as_ruled =
        let q : ltb 2142 (length the_packet) ≡ l = rw (size_is d h f b n (omega arith)) (sym s) in
        rw (ruled_then 2142 (length d) a m u (ltb 2142 (length the_packet)) (gives the_packet), q, e)

    pub tried_refused : (r : Refusal) → j ≡ Err r → lent (refused (refusal_number r)) d ≡ tried a m u the_packet d
    tried_refused r t = sym (as_ruled ∙ rw t)

    pub tried_written : j ≡ (Ok tt) → (w : Lent) → w ≡ writes (gives the_packet) d → w ≡ tried a m u the_packet d
    tried_written t w g = g ∙ sym (as_ruled ∙ rw t)

-- ---- the head of a kind, and what is built of it
same_built : (k : Kind) (x : Fields) (d q : List ℕ) (a m u : Bool) → against_spi k x ≡ a → misfit k x ≡ m → against_check k x ≡ u
    → (m ≡ false → q ≡ packet_of k x) → tried a m u q d ≡ built k x d
unfolding built building
same_built k x d q a true u e f i g = rw (e, f)
same_built k x d q a false u e f i g = rw (e, f, i, g refl)

-- the first octet behind the lengths stands at the head's place 3
first_octet : (h r : List ℕ) → 3 < length h → get_or (drop 3 h ++ r) 0 0 ≡ get_or h 3 0
first_octet h r l = get_or-append (drop 3 h) r 0 0 (simp length-drop (omega arith)) ∙ get_or-drop 3 h 0 0

module _ (k : Kind) (h : List ℕ) where
  pub plain_room : length h ≡ 3 + least k → 4 ≤ length h
  plain_room m = omega (arith, before_least k)

  pub plain_few : length h ≡ 3 + least k → length h ≤ 16
  plain_few m = omega (arith, least_most k)

  pub ciphered_room : length h ≡ 3 + before k → 4 ≤ length h
  ciphered_room m = omega (arith, before_some k)

  pub ciphered_few : length h ≡ 3 + before k → length h ≤ 16
  ciphered_few m = omega (arith, before_least k, least_most k)

module _ (k : Kind) (h d : List ℕ) (w : Lent) where
  module _ (m : length h ≡ 3 + least k) where
    whole : (c s : List ℕ) (l : ℕ) → l ≡ least k → length c ≤ 255 - l
        → packet_from ((l + length c) % 256) (drop 3 h ++ (c ++ s)) ≡ packet_of k (plain (drop 3 h) c s)
    unfolding packet_of
    whole c s l e i = let n : (l + length c) % 256 ≡ least k + length c = omega (arith, least_most k) in rw n

    pub plain_built : (c s : List ℕ) (l : ℕ) → l ≡ least k
        → (u : Bool) → u ≡ against_bits k (get_or h 3 0) (length c)
        → w ≡ tried (against_octet k (get_or h 3 0) false) (ltb (255 - l) (length c)) u (packet_from ((l + length c) % 256) (drop 3 h ++ (c ++ s))) d
        → w ≡ built k (plain (drop 3 h) c s) d
    plain_built c s l e u i g =
        let x = plain (drop 3 h) c s in
        let q = packet_from ((l + length c) % 256) (drop 3 h ++ (c ++ s)) in
        g ∙ same_built k x d q (against_octet k (get_or h 3 0) false) (ltb (255 - l) (length c)) u (against_is k x ∙ rw (first_octet h (c ++ s) (plain_room k h m))) (rw e)
        (rw get_or-drop (sym i)) λ t. whole c s l e (ltb-false (255 - l) (length c) t)

  module _ (m : length h ≡ 3 + before k) where
    opaque : (n : ℕ) (o : List ℕ) (f : Bool) → f ≡ outside k n (length o) → f ≡ false
        → packet_from (n % 256) (drop 3 h ++ (o ++ [])) ≡ packet_of k (ciphered (drop 3 h) n o)
    unfolding packet_of
    opaque n o f e t =
        let (u, v) = neither (ltb n (least k) || ltb 255 n) (ltb (length o) (n - before k)) (sym e ∙ t) in
        let l : n ≤ 255 = ltb-false 255 n (neither (ltb n (least k)) (ltb 255 n) u).1 in
        let s : n % 256 ≡ n = omega arith in rw (s, append-nil)

    pub ciphered_built : (n z : ℕ) → z ≡ n → (o : List ℕ) (f : Bool) → f ≡ outside k z (length o)
        → w ≡ tried (against_octet k (get_or h 3 0) true) f false (packet_from (z % 256) (drop 3 h ++ (o ++ []))) d → w ≡ built k (ciphered (drop 3 h) n o) d
    ciphered_built n z same o f e' g' =
        let e : f ≡ outside k n (length o) = rw same at e' in
        let g : w ≡ tried (against_octet k (get_or h 3 0) true) f false (packet_from (n % 256) (drop 3 h ++ (o ++ []))) d = rw same at g' in
        let x = ciphered (drop 3 h) n o in
        let q = packet_from (n % 256) (drop 3 h ++ (o ++ [])) in
        g ∙ same_built k x d q (against_octet k (get_or h 3 0) true) f false (against_is k x ∙ rw (first_octet h o (ciphered_room k h m))) (sym e) refl λ t. opaque n o f e t

pub ruleset steps = (
  rules,
  lengths_set,
  filled,
  whole_written,
  allowed_buffer,
  allowed_size,
  tried_refused,
  tried_written,
  plain_room,
  plain_few,
  plain_built,
  ciphered_room,
  ciphered_few,
  ciphered_built,
)
