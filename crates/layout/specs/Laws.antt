-- What the octets of a slot say of the record, and what a change of them does to it. A field is told by its place in a slot's octets, here and
-- nowhere else: the laws at the end speak of records and slots alone.
use Prim.Native.Nat.{ℕ, zero, suc, ◌+◌, ◌-◌, ◌*◌, ◌/◌, ◌%◌, ◌≤◌, ◌<◌}
use Rattle.std.specs.Prelude.{◌≡◌, Bool, not, ◌&&◌, take, drop, eqb}
use Rattle.std.proofs.Math.Path.{refl, ap}
use Rattle.std.proofs.Common.{sym, ◌∙◌, length-set, get_or-set_same, set-set, drop-drop}
use Rattle.std.proofs.Math.Bool.{true, false}
use mathlib.Core.List.{List, [], ◌∷◌, map}
use native.Mathlib.Omega.{arith}
use Rattle.std.proofs.Math.ListN.{length, get_or, set, length-drop, get_or-map, get_or-eq_default}
use Rattle.std.proofs.lemmas.List.{length-map, set-get_or}
use Rattle.std.proofs.Math.Seq.{get_or-take, get_or-drop, get_or-set_other, set_out, take-set-le, take-set-lt, drop-set-lt, drop-set-add, length-take-le}
use Rattle.std.proofs.Math.Dec.{leb, ltb}
use borrow.Author.Tests.{eqb-true, eq-eqb, ne_eqb, ltb-true, ltb-false, lt-ltb, le-ltb, le-leb, leb-true}
use Rattle.octets.specs.Octets.{number_of}
use Rattle.octets.specs.Tests.{both, both_hold, Same, same, other, same?}
use Rattle.types.specs.declared.Key.{Key}
use Rattle.types.specs.declared.Slot.{Slot}
use Rattle.arrival.specs.Message.{most_parts}
use Rattle.slots.specs.Below.{all_below}
use Rattle.slots.specs.BelowLaws.{all_at, all_hold, all_same}
use Rattle.slots.specs.Slots.{most_slots, opened, free_slot, with_part, at_rank, at_count, at_front, with_slots}
use Rattle.slots.specs.Found.{with_part_in}
use Rattle.slots.specs.FrontLaws.{past}
use Rattle.layout.specs.Blocks.{slot_size, blocks, blocks_length, block_size, block_octet, block_part, block_stored}
use Rattle.layout.specs.Layout.{format_number, state_size, head_size, octet_place, slot_block, is_mark, mark_octet, wide_number, slot_fields, slot_in, state_record, mark_fits, marks_fit, slot_marks_fit, head_fits, known}
use Rattle.layout.specs.Changes.{state_slot, with_slot, Stored, Became, with_pair, with_sender, with_numbers, slot_with_key, with_total}

map_set : {A B : Type 0} (f : A → B) (l : List A) (i : ℕ) (a : A) → map f (set l i a) ≡ set (map f l) i (f a)
map_set f [] i a = refl
map_set f (x ∷ l) zero a = refl
map_set f (x ∷ l) (suc i) a = ap (λ r. f x ∷ r) (map_set f l i a)

-- ---- reading
pub slots_long : (s : List ℕ) → length (state_record s).slots ≡ most_slots
unfolding state_record
slots_long s = length-map (blocks most_slots (drop head_size s)) slot_in ∙ blocks_length most_slots (drop head_size s)

module _ (s : List ℕ) (i : ℕ) where
  -- slot i is what its own octets say
  pub slot_here : state_slot s i ≡ slot_in (slot_block i s)
  unfolding state_record slot_in slot_fields
  slot_here = get_or-map slot_in (blocks most_slots (drop head_size s)) i []

  pub octet_read : (p : ℕ) → i < most_slots → p < slot_size → get_or s (octet_place i p) 0 ≡ get_or (slot_block i s) p 0
  octet_read p l m =
      let e : head_size + (slot_size * i + p) ≡ octet_place i p = omega arith in
      sym (block_octet most_slots i p (drop head_size s) l m ∙ get_or-drop head_size s (slot_size * i + p) 0 ∙ ap (λ (q : ℕ). get_or s q 0) e)

  own_none : most_slots ≤ i → slot_block i s ≡ []
  own_none l = get_or-eq_default (blocks most_slots (drop head_size s)) [] {n = i} (rw (blocks_length most_slots (drop head_size s)) l)

  pub octet_none : (p : ℕ) → most_slots ≤ i → 0 ≡ get_or (slot_block i s) p 0
  octet_none p l = rw (own_none l)

  -- a run of octets of slot i, where they are
  pub octets_read_lem : (a b : ℕ) → i < most_slots → a + b ≤ slot_size → take b (drop (octet_place i a) s) ≡ take b (drop a (slot_block i s))
  octets_read_lem a b l m =
      let e : head_size + (slot_size * i + a) ≡ octet_place i a = omega arith in
      sym (block_part most_slots i a b (drop head_size s) l m ∙ ap (take b) (drop-drop (slot_size * i + a) head_size s) ∙ ap (λ (q : ℕ). take b (drop q s)) e)

-- ---- what as many octets as a state has tell: each slot has its own, sixteen lengths and sixteen marks
module _ (s : List ℕ) (size : length s ≡ state_size) (i : ℕ) (l : i < most_slots) where
  pub block_long : length (slot_block i s) ≡ slot_size
  block_long = block_size most_slots i (drop head_size s) (simp length-drop (omega arith)) l

  pub lengths_sixteen : length (state_slot s i).lengths ≡ most_parts
  unfolding slot_in slot_fields
  lengths_sixteen =
      let e : length (slot_block i s) ≡ slot_size = block_long in
      rw (slot_here s i) (length-take-le 16 (drop 14 (slot_block i s)) (simp length-drop (omega arith)))

  pub marks_sixteen : length (state_slot s i).held ≡ most_parts
  unfolding slot_in slot_fields
  marks_sixteen =
      let e : length (slot_block i s) ≡ slot_size = block_long in
      rw (slot_here s i) (length-map (take 16 (drop 30 (slot_block i s))) is_mark ∙ length-take-le 16 (drop 30 (slot_block i s)) (simp length-drop (omega arith)))

-- ---- what octets that are a record tell
module _ (s : List ℕ) (k : known s ≡ true) where
  pub known_head : head_fits s ≡ true
  unfolding known
  known_head = (both (head_fits s) (all_below most_slots (slot_marks_fit s)) k).0

  pub known_length : length s ≡ state_size
  known_length =
      eqb-true (length s) state_size (both (eqb (length s) state_size) (eqb (get_or s 0 0) format_number) (both (eqb (length s) state_size && eqb (get_or s 0 0) format_number) (leb (get_or s 1 0) 1) known_head).0).0

  pub own_marks : (i : ℕ) → i < most_slots → marks_fit (slot_block i s) ≡ true
  unfolding known
  own_marks i l = all_at most_slots (slot_marks_fit s) (both (head_fits s) (all_below most_slots (slot_marks_fit s)) k).1 i l

  pub own_size : (i : ℕ) → i < most_slots → length (slot_block i s) ≡ slot_size
  own_size i l = block_long s known_length i l

-- ---- storing
module _ (s : List ℕ) (i : ℕ) where
  pub octet_stored : (p v : ℕ) → p < slot_size → Stored s (set s (octet_place i p) v) i (set (slot_block i s) p v)
  octet_stored p v m =
      let e : octet_place i p ≡ head_size + (slot_size * i + p) = omega arith in
      record {
        size = length-set s (octet_place i p) v;
        head = take-set-le head_size s (octet_place i p) v (omega arith);
        block = rw (e, drop-set-add head_size s (slot_size * i + p) v) (block_stored most_slots i p v (drop head_size s) m);
      }

  blocks_out : (x : List ℕ) → most_slots ≤ i → set (blocks most_slots (drop head_size s)) i x ≡ blocks most_slots (drop head_size s)
  blocks_out x l = set_out (blocks most_slots (drop head_size s)) i x (rw (blocks_length most_slots (drop head_size s)) l)

  pub none_stored : (x : List ℕ) → most_slots ≤ i → Stored s s i x
  none_stored x l = record { size = refl; head = refl; block = sym (blocks_out x l) }

  pub own_stored : (t x : List ℕ) → Stored s t i x → i < most_slots → slot_block i t ≡ x
  own_stored t x h l =
      ap (λ (bs : List (List ℕ)). get_or bs i []) h.block ∙ get_or-set_same (blocks most_slots (drop head_size s)) i x [] (rw (blocks_length most_slots (drop head_size s)) l)

  -- nothing stored yet, and one octet more
  pub stored_own : Stored s s i (slot_block i s)
  stored_own = record { size = refl; head = refl; block = sym (set-get_or (blocks most_slots (drop head_size s)) i []) }

  -- what was stored, changed as f does
  stored_then : (t u x : List ℕ) (f : List ℕ → List ℕ) → Stored s t i x → Stored t u i (f (slot_block i t)) → Stored s u i (f x)
  stored_then t u x f g h = record { size = h.size ∙ g.size; head = h.head ∙ g.head; block = go (ltb i most_slots) refl }
    where
      go : (b : Bool) → ltb i most_slots ≡ b → blocks most_slots (drop head_size u) ≡ set (blocks most_slots (drop head_size s)) i (f x)
      go true e = rw (h.block, own_stored t x g (ltb-true i most_slots e), g.block, set-set)
      go false e =
          let l : most_slots ≤ i = ltb-false i most_slots e in
          h.block ∙ set_out (blocks most_slots (drop head_size t)) i (f (slot_block i t)) (rw (blocks_length most_slots (drop head_size t)) l)
          ∙ g.block ∙ blocks_out x l ∙ sym (blocks_out (f x) l)

  pub stored_more : (t u x : List ℕ) (p v : ℕ) → Stored s t i x → Stored t u i (set (slot_block i t) p v) → Stored s u i (set x p v)
  stored_more t u x p v g h = stored_then t u x (λ y. set y p v) g h

  pub stored_sender : (t u : List ℕ) (n a b : ℕ) → a ≡ n / 65536 → b ≡ n % 65536 → Stored s t i (with_pair (slot_block i s) 2 a) → Stored t u i (with_pair (slot_block i t) 4 b)
      → Stored s u i (with_sender (slot_block i s) n)
  stored_sender t u n a b e f g h = rw (← e, ← f) (stored_then t u (with_pair (slot_block i s) 2 a) (λ y. with_pair y 4 b) g h)

  pub stored_numbers : (t u v : List ℕ) (a b c : ℕ) → Stored s t i (with_pair (slot_block i s) 7 a) → Stored t u i (with_pair (slot_block i t) 9 b)
      → Stored u v i (with_pair (slot_block i u) 11 c) → Stored s v i (with_numbers (slot_block i s) a b c)
  stored_numbers t u v a b c g h k =
      stored_then u v (with_pair (with_pair (slot_block i s) 7 a) 9 b) (λ y. with_pair y 11 c) (stored_then t u (with_pair (slot_block i s) 7 a) (λ y. with_pair y 9 b) g h) k

-- the record that t holds then
module _ (s t : List ℕ) (i : ℕ) (x : List ℕ) (h : Stored s t i x) where
  head_same : (p : ℕ) → p < head_size → get_or t p 0 ≡ get_or s p 0
  head_same p l = sym (get_or-take head_size t p 0 l) ∙ ap (λ (o : List ℕ). get_or o p 0) h.head ∙ get_or-take head_size s p 0 l

  still_known : known s ≡ true → (i < most_slots → marks_fit x ≡ true) → known t ≡ true
  unfolding known
  still_known k m =
      both_hold (head_fits t) (all_below most_slots (slot_marks_fit t))
      (rw (h.size, head_same 0 (omega arith), head_same 1 (omega arith)) (known_head s k))
      (all_hold most_slots (slot_marks_fit t) (λ j l. go j l (same? j i)))
    where
      go : (j : ℕ) → j < most_slots → Same j i → marks_fit (slot_block j t) ≡ true
      go j l (same e p) =
          let q : i < most_slots = omega arith in
          ap (λ (o : ℕ). marks_fit (slot_block o t)) p ∙ ap marks_fit (own_stored s i t x h q) ∙ m q
      go j l (other e p) =
          ap marks_fit (ap (λ (bs : List (List ℕ)). get_or bs j []) h.block ∙ get_or-set_other (blocks most_slots (drop head_size s)) i j x [] p) ∙ own_marks s k j l

  record_now : state_record t ≡ with_slot s i (slot_in x)
  unfolding state_record
  record_now =
      rw (h.block, head_same 1 (omega arith), head_same 2 (omega arith), map_set slot_in (blocks most_slots (drop head_size s)) i x)

  -- it is the record that s held, with slot i as x says
  pub stored_became : (y : Slot) → (known s ≡ true → i < most_slots → (marks_fit x ≡ true) × (slot_in x ≡ y)) → Became s t (with_slot s i y)
  stored_became y f = record { still = λ k. still_known k (λ l. (f k l).0); now = λ k. record_now ∙ go k (ltb i most_slots) refl }
    where
      out : (z : Slot) → most_slots ≤ i → set (state_record s).slots i z ≡ (state_record s).slots
      out z l = set_out (state_record s).slots i z (rw (slots_long s) l)

      go : known s ≡ true → (b : Bool) → ltb i most_slots ≡ b → with_slot s i (slot_in x) ≡ with_slot s i y
      go k true e = ap (λ (z : Slot). with_slot s i z) (f k (ltb-true i most_slots e)).1
      go k false e =
          let l : most_slots ≤ i = ltb-false i most_slots e in
          ap (λ (xs : List Slot). with_slots (state_record s) xs) (out (slot_in x) l ∙ sym (out y l))

-- no slot i, or nothing new in it
pub none_became : (s : List ℕ) (i : ℕ) (y : Slot) → most_slots ≤ i → Became s s (with_slot s i y)
none_became s i y l =
    let e : set (state_record s).slots i y ≡ (state_record s).slots = set_out (state_record s).slots i y (rw (slots_long s) l) in
    record { still = λ k. k; now = λ k. rw e }

unchanged : (s : List ℕ) (i : ℕ) → Became s s (with_slot s i (state_slot s i))
unchanged s i = record { still = λ k. k; now = λ k. rw (set-get_or (state_record s).slots i past) }

-- ---- the fields of a slot, by their places in its octets
-- a list of at least n
data Long : ℕ → List ℕ → Type 0 where
  any : {x : List ℕ} → Long 0 x
  more : {n a : ℕ} {x : List ℕ} → Long n x → Long (suc n) (a ∷ x)

long : (n : ℕ) (x : List ℕ) → n ≤ length x → Long n x
long zero x l = any
long (suc n) [] l = absurd (omega arith)
long (suc n) (a ∷ x) l = more (long n x (omega arith))

pub take_most : {A : Type 0} (n : ℕ) (l : List A) → length (take n l) ≤ n
take_most zero l = omega arith
take_most (suc n) [] = omega arith
take_most (suc n) (a ∷ l) = let h : length (take n l) ≤ n = take_most n l in omega arith

module _ (s : List ℕ) (i : ℕ) where
  -- an octet before the lengths
  head : (p : ℕ) → p < 14 → get_or (slot_block i s) p 0 ≡ get_or (take 14 (slot_block i s)) p 0
  head p l = sym (get_or-take 14 (slot_block i s) p 0 l)

  module _ (q : ℕ) where
    pub rank_read : q ≡ get_or (slot_block i s) 0 0 → q ≡ (state_slot s i).rank
    unfolding slot_in slot_fields
    rank_read e = rw (e, slot_here s i) (head 0 (omega arith))

    pub beats_read : q ≡ get_or (slot_block i s) 1 0 → q ≡ (state_slot s i).beats
    unfolding slot_in slot_fields
    beats_read e = rw (e, slot_here s i) (head 1 (omega arith))

    pub total_read : q ≡ get_or (slot_block i s) 13 0 → q ≡ (state_slot s i).total
    unfolding slot_in slot_fields
    total_read e = rw (e, slot_here s i) (head 13 (omega arith))

  pub key_read : (a h l w r n d : ℕ) → a ≡ wide_number h l
      → h ≡ number_of (get_or (slot_block i s) 2 0) (get_or (slot_block i s) (2 + 1) 0) → l ≡ number_of (get_or (slot_block i s) 4 0) (get_or (slot_block i s) (4 + 1) 0)
      → w ≡ get_or (slot_block i s) 6 0 → r ≡ number_of (get_or (slot_block i s) 7 0) (get_or (slot_block i s) (7 + 1) 0)
      → n ≡ number_of (get_or (slot_block i s) 9 0) (get_or (slot_block i s) (9 + 1) 0) → d ≡ number_of (get_or (slot_block i s) 11 0) (get_or (slot_block i s) (11 + 1) 0)
      → record { sender = a; width = w; reference = r; serial = record { 0 = n }; identifier = record { 0 = d } } ≡ (state_slot s i).key
  unfolding slot_in slot_fields
  key_read a h l w r n d ea eh el ew er en ed =
      rw (ea, eh, el, ew, er, en, ed, slot_here s i, head 2 (omega arith), head 3 (omega arith), head 4 (omega arith), head 5 (omega arith), head 6 (omega arith), head 7 (omega arith), head 8 (omega arith), head 9 (omega arith), head 10 (omega arith), head 11 (omega arith), head 12 (omega arith))

  module _ (k : ℕ) where
    pub length_read : (q : ℕ) → k < most_parts → q ≡ get_or (slot_block i s) (14 + k) 0 → q ≡ get_or (state_slot s i).lengths k 0
    unfolding slot_in slot_fields
    length_read q l e = rw (e, slot_here s i, get_or-take 16 (drop 14 (slot_block i s)) k 0 l, get_or-drop 14 (slot_block i s) k 0)

    pub length_none : most_parts ≤ k → 0 ≡ get_or (state_slot s i).lengths k 0
    unfolding slot_in slot_fields
    length_none l =
        let h : length (take 16 (drop 14 (slot_block i s))) ≤ 16 = take_most 16 (drop 14 (slot_block i s)) in
        rw (slot_here s i) (sym (get_or-eq_default (take 16 (drop 14 (slot_block i s))) 0 {n = k} (omega arith)))

    pub mark_read : (q : ℕ) → k < most_parts → q ≡ get_or (slot_block i s) (30 + k) 0 → not (eqb q 0) ≡ get_or (state_slot s i).held k false
    unfolding slot_in slot_fields
    mark_read q l e =
        rw (e, slot_here s i, get_or-map is_mark (take 16 (drop 30 (slot_block i s))) k 0, get_or-take 16 (drop 30 (slot_block i s)) k 0 l, get_or-drop 30 (slot_block i s) k 0)

    pub mark_none : most_parts ≤ k → false ≡ get_or (state_slot s i).held k false
    unfolding slot_in slot_fields
    mark_none l =
        let h : length (take 16 (drop 30 (slot_block i s))) ≤ 16 = take_most 16 (drop 30 (slot_block i s)) in
        rw (slot_here s i) (sym (get_or-map is_mark (take 16 (drop 30 (slot_block i s))) k 0 ∙ ap is_mark (get_or-eq_default (take 16 (drop 30 (slot_block i s))) 0 {n = k} (omega arith))))

    -- of a state, the mark's octet is its number
    mark_low : k < most_parts → known s ≡ true → leb (get_or (slot_block i s) (30 + k) 0) 1 ≡ true
    unfolding marks_fit
    mark_low l w = go (ltb i most_slots) refl
      where
        go : (b : Bool) → ltb i most_slots ≡ b → leb (get_or (slot_block i s) (30 + k) 0) 1 ≡ true
        go true e = all_at most_parts (mark_fits (slot_block i s)) (own_marks s w i (ltb-true i most_slots e)) k l
        go false e = rw (own_none s i (ltb-false i most_slots e))

    pub mark_number : (q : ℕ) → k < most_parts → q ≡ get_or (slot_block i s) (30 + k) 0 → known s ≡ true → q ≡ mark_octet (get_or (state_slot s i).held k false)
    mark_number q l e w = go q (get_or (state_slot s i).held k false) (ap (λ (n : ℕ). leb n 1) e ∙ mark_low l w) (mark_read q l e)
      where
        go : (n : ℕ) (b : Bool) → leb n 1 ≡ true → not (eqb n 0) ≡ b → n ≡ mark_octet b
        go zero b m f = ap mark_octet f
        go (suc zero) b m f = ap mark_octet f
        go (suc (suc n)) b m f = absurd (omega (arith, leb-true (suc (suc n)) 1 m))

    pub mark_number_none : most_parts ≤ k → known s ≡ true → 0 ≡ mark_octet (get_or (state_slot s i).held k false)
    mark_number_none l w = ap mark_octet (mark_none l)

  pub lengths_read : (r : List ℕ) → i < most_slots → r ≡ take 16 (drop (octet_place i 14) s) → r ≡ (state_slot s i).lengths
  unfolding slot_in slot_fields
  lengths_read r l e = rw (e, slot_here s i) (octets_read_lem s i 14 16 l (omega arith))

  pub lengths_none : (r : List ℕ) → most_slots ≤ i → r ≡ take 0 (drop 0 s) → r ≡ (state_slot s i).lengths
  unfolding slot_in slot_fields
  lengths_none r l e = rw (slot_here s i, own_none s i l) e

-- changing one: a store before the marks leaves them
pub head_marks : (x : List ℕ) (p v : ℕ) → p < 30 → marks_fit x ≡ true → marks_fit (set x p v) ≡ true
unfolding marks_fit
head_marks x p v l e = all_same most_parts (mark_fits (set x p v)) (mark_fits x) (λ k m. go k) ∙ e
  where
    go : (k : ℕ) → mark_fits (set x p v) k ≡ mark_fits x k
    go k = ap (λ (q : ℕ). leb q 1) (get_or-set_other x p (30 + k) v 0 (λ f. omega arith))

slot_rank : (x : List ℕ) (v : ℕ) → Long 1 x → slot_in (set x 0 v) ≡ at_rank v (slot_in x)
unfolding slot_in slot_fields
slot_rank x v (more any) = refl

slot_beats : (x : List ℕ) (v : ℕ) → Long 2 x → slot_in (set x 1 v) ≡ at_count v (slot_in x)
unfolding slot_in slot_fields
slot_beats x v (more (more any)) = refl

slot_total : (x : List ℕ) (v : ℕ) → Long 14 x → slot_in (set x 13 v) ≡ with_total v (slot_in x)
unfolding slot_in slot_fields
slot_total x v (more (more (more (more (more (more (more (more (more (more (more (more (more (more any)))))))))))))) = refl

module _ (s t : List ℕ) (i : ℕ) where
  -- one octet before the marks, if storing it changes a slot as f does
  field_set : (p v : ℕ) (f : Slot → Slot) → p < 30 → ((x : List ℕ) → length x ≡ slot_size → slot_in (set x p v) ≡ f (slot_in x))
      → Stored s t i (set (slot_block i s) p v) → Became s t (with_slot s i (f (state_slot s i)))
  field_set p v f m law h =
      stored_became s t i (set (slot_block i s) p v) h (f (state_slot s i))
      (λ k l. (head_marks (slot_block i s) p v m (own_marks s k i l), law (slot_block i s) (own_size s k i l) ∙ ap f (sym (slot_here s i))))

  pub rank_set : (v : ℕ) → Stored s t i (set (slot_block i s) 0 v) → Became s t (with_slot s i (at_rank v (state_slot s i)))
  rank_set v h = field_set 0 v (at_rank v) (omega arith) (λ x e. slot_rank x v (long 1 x (omega arith))) h

  pub beats_set : (v : ℕ) → Stored s t i (set (slot_block i s) 1 v) → Became s t (with_slot s i (at_count v (state_slot s i)))
  beats_set v h = field_set 1 v (at_count v) (omega arith) (λ x e. slot_beats x v (long 2 x (omega arith))) h

  pub total_set : (v : ℕ) → Stored s t i (set (slot_block i s) 13 v) → Became s t (with_slot s i (with_total v (state_slot s i)))
  total_set v h = field_set 13 v (with_total v) (omega arith) (λ x e. slot_total x v (long 14 x (omega arith))) h

-- ---- a part: its length, then its mark
module _ (x : List ℕ) (k : ℕ) (l : k < most_parts) where
  slot_length : (n : ℕ) → slot_in (set x (14 + k) n)
      ≡ record { rank = (slot_in x).rank; beats = (slot_in x).beats; key = (slot_in x).key; total = (slot_in x).total; lengths = set (slot_in x).lengths k n; held = (slot_in x).held }
  unfolding slot_in slot_fields
  slot_length n =
      rw (take-set-le 14 x (14 + k) n (omega arith), drop-set-add 14 x k n, take-set-lt 16 (drop 14 x) k n l, drop-set-lt 30 x (14 + k) n (omega arith))

  slot_mark : slot_in (set x (30 + k) 1)
      ≡ record { rank = (slot_in x).rank; beats = (slot_in x).beats; key = (slot_in x).key; total = (slot_in x).total; lengths = (slot_in x).lengths; held = set (slot_in x).held k true }
  unfolding slot_in slot_fields
  slot_mark =
      let e : 14 + (16 + k) ≡ 30 + k = omega arith in
      rw (take-set-le 14 x (30 + k) 1 (omega arith), drop-set-add 30 x k 1, take-set-lt 16 (drop 30 x) k 1 l, map_set is_mark (take 16 (drop 30 x)) k 1, ← e, drop-set-add 14 x (16 + k) 1, take-set-le 16 (drop 14 x) (16 + k) 1 (omega arith))

  mark_marks : marks_fit x ≡ true → marks_fit (set x (30 + k) 1) ≡ true
  unfolding marks_fit
  mark_marks e = all_hold most_parts (mark_fits (set x (30 + k) 1)) (λ j m. go j m (same? j k))
    where
      here : (q : ℕ) → q ≤ 1 → leb q 1 ≡ true
      here q m = le-leb q 1 m

      go : (j : ℕ) → j < most_parts → Same j k → mark_fits (set x (30 + k) 1) j ≡ true
      go j m (same f p) = here (get_or (set x (30 + k) 1) (30 + j) 0) (rw p (low (30 + k) x))
        where
          low : (q : ℕ) (y : List ℕ) → get_or (set y q 1) q 0 ≤ 1
          low q [] = omega arith
          low zero (a ∷ y) = omega arith
          low (suc q) (a ∷ y) = low q y
      go j m (other f p) =
          ap (λ (q : ℕ). leb q 1) (get_or-set_other x (30 + k) (30 + j) 1 0 (λ g. p (omega arith))) ∙ all_at most_parts (mark_fits x) e j m

module _ (s : List ℕ) (i number n : ℕ) where
  pub part_zero : number ≡ 0 → Became s s (with_slot s i (with_part_in (state_slot s i) number n))
  part_zero e = rw (eq-eqb number 0 e) (unchanged s i)

  pub part_past : most_parts < number → Became s s (with_slot s i (with_part_in (state_slot s i) number n))
  part_past l = rw (ne_eqb number 0 (λ e. omega arith), lt-ltb most_parts number l) (unchanged s i)

  pub part_set : (t u : List ℕ) → (number ≡ 0 → ⊥) → number ≤ most_parts → Stored s t i (set (slot_block i s) (14 + (number - 1)) n)
      → Stored t u i (set (slot_block i t) (30 + (number - 1)) 1) → Became s u (with_slot s i (with_part_in (state_slot s i) number n))
  part_set t u z m g h =
      let j : ℕ = number - 1 in
      let l : j < most_parts = omega arith in
      let x : List ℕ = slot_block i s in
      let y : List ℕ = set x (14 + j) n in
      let stored : Stored s u i (set y (30 + j) 1) = stored_more s i t u y (30 + j) 1 g h in
      let said : slot_in (set y (30 + j) 1) ≡ with_part (slot_in x) number n = rw (slot_mark y j l, slot_length x j l n) in
      rw (ne_eqb number 0 z, le-ltb most_parts number m)
      (stored_became s u i (set y (30 + j) 1) stored (with_part (state_slot s i) number n)
      (λ k o. (mark_marks y j l (head_marks x (14 + j) n (omega arith) (own_marks s k i o)), said ∙ ap (λ (w : Slot). with_part w number n) (sym (slot_here s i)))))

-- ---- a key
pair_marks : (x : List ℕ) (p n : ℕ) → p + 1 < 30 → marks_fit x ≡ true → marks_fit (with_pair x p n) ≡ true
pair_marks x p n l e = head_marks (set x p (n / 256)) (p + 1) (n % 256) l (head_marks x p (n / 256) (omega arith) e)

slot_key : (x : List ℕ) (a b c d e f g h i j k : ℕ) → Long 13 x
    → slot_in (set (set (set (set (set (set (set (set (set (set (set x 2 a) 3 b) 4 c) 5 d) 6 e) 7 f) 8 g) 9 h) 10 i) 11 j) 12 k)
    ≡ slot_with_key (record { sender = wide_number (number_of a b) (number_of c d); width = e; reference = number_of f g; serial = record { 0 = number_of h i }; identifier = record { 0 = number_of j k } }) (slot_in x)
unfolding slot_in slot_fields
slot_key x a b c d e f g h i j k (more (more (more (more (more (more (more (more (more (more (more (more (more any))))))))))))) = refl

-- a number of two octets, and one of four
pub pair_number : (n : ℕ) → number_of (n / 256) (n % 256) ≡ n
pair_number n = omega arith

pub wide_pairs : (n : ℕ) → wide_number (number_of (n / 65536 / 256) (n / 65536 % 256)) (number_of (n % 65536 / 256) (n % 65536 % 256)) ≡ n
wide_pairs n = omega arith

module _ (x : List ℕ) (key : Key) where
  keyed : List ℕ
  keyed = with_numbers (set (with_sender x key.sender) 6 key.width) key.reference key.serial.0 key.identifier.0

  keyed_marks : marks_fit x ≡ true → marks_fit keyed ≡ true
  unfolding keyed
  keyed_marks m =
      let a = pair_marks x 2 (key.sender / 65536) (omega arith) m in
      let b = pair_marks (with_pair x 2 (key.sender / 65536)) 4 (key.sender % 65536) (omega arith) a in
      let c = head_marks (with_sender x key.sender) 6 key.width (omega arith) b in
      let y : List ℕ = set (with_sender x key.sender) 6 key.width in
      let d = pair_marks y 7 key.reference (omega arith) c in
      let e = pair_marks (with_pair y 7 key.reference) 9 key.serial.0 (omega arith) d in
      pair_marks (with_pair (with_pair y 7 key.reference) 9 key.serial.0) 11 key.identifier.0 (omega arith) e

  keyed_slot : length x ≡ slot_size → slot_in keyed ≡ slot_with_key key (slot_in x)
  unfolding keyed
  keyed_slot l =
      slot_key x _ _ _ _ _ _ _ _ _ _ _ (long 13 x (omega arith))
      ∙ (λ j. slot_with_key (record { sender = wide_pairs key.sender j; width = key.width; reference = pair_number key.reference j; serial = record { 0 = pair_number key.serial.0 j }; identifier = record { 0 = pair_number key.identifier.0 j } }) (slot_in x))

pub key_set : (s t u v : List ℕ) (i : ℕ) (key : Key) → Stored s t i (with_sender (slot_block i s) key.sender) → Stored t u i (set (slot_block i t) 6 key.width)
    → Stored u v i (with_numbers (slot_block i u) key.reference key.serial.0 key.identifier.0) → Became s v (with_slot s i (slot_with_key key (state_slot s i)))
unfolding keyed
key_set s t u v i key g h o =
    let two : Stored s u i (set (with_sender (slot_block i s) key.sender) 6 key.width) = stored_more s i t u (with_sender (slot_block i s) key.sender) 6 key.width g h in
    let all : Stored s v i (keyed (slot_block i s) key) =
    stored_then s i u v (set (with_sender (slot_block i s) key.sender) 6 key.width) (λ y. with_numbers y key.reference key.serial.0 key.identifier.0) two o in
    stored_became s v i (keyed (slot_block i s) key) all (slot_with_key key (state_slot s i))
    (λ k l. (keyed_marks (slot_block i s) key (own_marks s k i l), keyed_slot (slot_block i s) key (own_size s k i l) ∙ ap (slot_with_key key) (sym (slot_here s i))))

-- ---- one change of slot i after another
module _ (s t : List ℕ) (i : ℕ) (a : Slot) (g : Became s t (with_slot s i a)) where
  slot_now : known s ≡ true → i < most_slots → state_slot t i ≡ a
  slot_now k l = rw (g.now k) (get_or-set_same (state_record s).slots i a past (rw (slots_long s) l))

  pub became_then : (u : List ℕ) (f : Slot → Slot) → Became t u (with_slot t i (f (state_slot t i))) → Became s u (with_slot s i (f a))
  became_then u f h = record { still = λ k. h.still (g.still k); now = λ k. h.now (g.still k) ∙ go k (ltb i most_slots) refl }
    where
      out : (r : List ℕ) (z : Slot) → most_slots ≤ i → set (state_record r).slots i z ≡ (state_record r).slots
      out r z l = set_out (state_record r).slots i z (rw (slots_long r) l)

      go : known s ≡ true → (b : Bool) → ltb i most_slots ≡ b → with_slot t i (f (state_slot t i)) ≡ with_slot s i (f a)
      go k true e = rw (slot_now k (ltb-true i most_slots e), g.now k, set-set)
      go k false e =
          let l : most_slots ≤ i = ltb-false i most_slots e in
          rw (out t (f (state_slot t i)) l, out s (f a) l, g.now k, out s a l)

module _ (s : List ℕ) (i : ℕ) where
  -- the most recent, with no beat since
  pub became_front : (t u : List ℕ) → Became s t (with_slot s i (at_rank 1 (state_slot s i))) → Became t u (with_slot t i (at_count 0 (state_slot t i)))
      → Became s u (with_slot s i (at_front (state_slot s i)))
  became_front t u g h = became_then s t i (at_rank 1 (state_slot s i)) g u (at_count 0) h

  pub became_opened : (t u v : List ℕ) (key : Key) (n : ℕ) → Became s t (with_slot s i free_slot) → Became t u (with_slot t i (slot_with_key key (state_slot t i)))
      → Became u v (with_slot u i (with_total n (state_slot u i))) → Became s v (with_slot s i (opened key n))
  became_opened t u v key n g h k =
      became_then s u i (opened key 0) (became_then s t i free_slot g u (slot_with_key key) h) v (with_total n) k
