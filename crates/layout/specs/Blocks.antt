-- Octets in blocks of one size, one behind the other: each slot of a state is such a block. What reading an octet of a block comes to, and what
-- storing one does to the blocks, whatever they hold.
use Rattle.std.specs.Prelude.{ℕ, zero, suc, ◌+◌, ◌*◌, ◌≤◌, ◌<◌, ◌≡◌, refl, List, [], ◌∷◌, ◌++◌, length, get_or, set, take, drop}
use Rattle.std.proofs.Common.{ap, ◌∙◌, arith, zero-add, length-append, length-drop, get_or-take, get_or-drop, length-take-le, take_at, drop_at, drop-set-lt, take-take, drop-drop}
use Rattle.std.proofs.lemmas.List.{take-set-le, drop-set-add}
use Rattle.std.proofs.Math.Seq.{take-set-lt}

-- octets of a block
abbrev pub slot_size : ℕ
slot_size = 46

-- the first n blocks
unfoldable pub blocks : ℕ → List ℕ → List (List ℕ)
blocks zero s = []
blocks (suc n) s = take slot_size s ∷ blocks n (drop slot_size s)

-- blocks, one behind the other
unfoldable pub laid : List (List ℕ) → List ℕ
laid [] = []
laid (b ∷ bs) = b ++ laid bs

next : (i p : ℕ) → slot_size * suc i + p ≡ slot_size + (slot_size * i + p)
next i p = omega arith

pub blocks_length : (n : ℕ) (s : List ℕ) → length (blocks n s) ≡ n
unfolding blocks
blocks_length zero s = refl
blocks_length (suc n) s = ap suc (blocks_length n (drop slot_size s))

pub block_size : (n i : ℕ) (s : List ℕ) → slot_size * n ≤ length s → i < n → length (get_or (blocks n s) i []) ≡ slot_size
unfolding blocks
block_size zero i s l m = absurd (omega arith)
block_size (suc n) zero s l m = length-take-le slot_size s (omega arith)
block_size (suc n) (suc i) s l m = block_size n i (drop slot_size s) (simp length-drop (omega arith)) (omega arith)

-- an octet of block i
pub block_octet : (n i p : ℕ) (s : List ℕ) → i < n → p < slot_size → get_or (get_or (blocks n s) i []) p 0 ≡ get_or s (slot_size * i + p) 0
unfolding blocks
block_octet zero i p s l m = absurd (omega arith)
block_octet (suc n) zero p s l m = rw zero-add (get_or-take slot_size s p 0 m)
block_octet (suc n) (suc i) p s l m =
    rw (next i p) (block_octet n i p (drop slot_size s) (omega arith) m ∙ get_or-drop slot_size s (slot_size * i + p) 0)

-- a run of octets inside block i
take_inside : (a b m : ℕ) (x : List ℕ) → a + b ≤ m → take b (drop a (take m x)) ≡ take b (drop a x)
take_inside zero b m x l = take-take b m x (omega arith)
take_inside (suc a) b zero x l = absurd (omega arith)
take_inside (suc a) b (suc m) [] l = refl
take_inside (suc a) b (suc m) (y ∷ x) l = take_inside a b m x (omega arith)

pub block_part : (n i a b : ℕ) (s : List ℕ) → i < n → a + b ≤ slot_size → take b (drop a (get_or (blocks n s) i [])) ≡ take b (drop (slot_size * i + a) s)
unfolding blocks
block_part zero i a b s l m = absurd (omega arith)
block_part (suc n) zero a b s l m = rw zero-add (take_inside a b slot_size s m)
block_part (suc n) (suc i) a b s l m =
    rw (next i a) (block_part n i a b (drop slot_size s) (omega arith) m ∙ ap (take b) (drop-drop (slot_size * i + a) slot_size s))

-- an octet stored in block i: that block has it, and the others are as they were
pub block_stored : (n i p v : ℕ) (s : List ℕ) → p < slot_size
    → blocks n (set s (slot_size * i + p) v) ≡ set (blocks n s) i (set (get_or (blocks n s) i []) p v)
unfolding blocks
block_stored zero i p v s m = refl
block_stored (suc n) zero p v s m = rw (zero-add, take-set-lt slot_size s p v m, drop-set-lt slot_size s p v m)
block_stored (suc n) (suc i) p v s m =
    rw (next i p, take-set-le slot_size s (slot_size + (slot_size * i + p)) v (omega arith), drop-set-add slot_size s (slot_size * i + p) v, block_stored n i p v (drop slot_size s) m)

-- blocks that were laid one behind the other
pub data Sized : List (List ℕ) → Type 0 where
  sized_none : Sized []
  sized_more : {b : List ℕ} {bs : List (List ℕ)} → length b ≡ slot_size → Sized bs → Sized (b ∷ bs)

pub laid_blocks : (bs : List (List ℕ)) → Sized bs → blocks (length bs) (laid bs) ≡ bs
unfolding blocks laid
laid_blocks [] sized_none = refl
laid_blocks (b ∷ bs) (sized_more e h) = rw (take_at b (laid bs) slot_size e, drop_at b (laid bs) slot_size e, laid_blocks bs h)

pub laid_length : (bs : List (List ℕ)) → Sized bs → length (laid bs) ≡ slot_size * length bs
unfolding laid
laid_length [] sized_none = omega arith
laid_length (b ∷ bs) (sized_more e h) = simp (length-append, laid_length bs h, e) (omega arith)
