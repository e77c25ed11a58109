-- Every record that a value of the type can be is held by octets: `state_octets` writes them, they are known, and `state_record` reads the record back;
-- and octets that hold a record are those that `state_octets` writes for it.
use Rattle.std.specs.Prelude.{ℕ, zero, suc, ◌+◌, ◌*◌, ◌/◌, ◌%◌, ◌≤◌, ◌<◌, ◌≡◌, refl, Bool, true, false, ◌&&◌, drop, eqb}
use Rattle.std.proofs.Common.{sym, ◌∙◌, length-append, length-drop, take-append-drop, take-add, drop-drop, length-take-le, get_or-take, get_or-drop, eq-eqb, eqb-true, leb-true}
use Rattle.std.proofs.Math.Path.{ap}
use mathlib.Core.List.{List, [], ◌∷◌, ◌++◌, map}
use native.Mathlib.Omega.{arith}
use Rattle.std.proofs.Math.ListN.{length, get_or, take}
use Rattle.std.proofs.lemmas.List.{length-map}
use Rattle.std.proofs.Math.Seq.{take_at, drop_at, take_all}
use Rattle.std.proofs.Math.Dec.{leb}
use Rattle.octets.specs.Octets.{Octets, number_of}
use Rattle.octets.specs.Tests.{both, both_hold}
use Rattle.types.specs.declared.Kind.{Kind}
use Rattle.types.specs.declared.Kind.TheVariants.{Command, Response}
use Rattle.types.specs.declared.Slot.{Slot}
use Rattle.types.specs.declared.Record.{Record}
use Rattle.arrival.specs.Message.{most_parts}
use Rattle.slots.specs.Below.{all_below}
use Rattle.slots.specs.BelowLaws.{all_at, all_hold}
use Rattle.slots.specs.Slots.{most_slots, slot_at}
use Rattle.layout.specs.Blocks.{slot_size, blocks, laid, Sized, sized_none, sized_more, laid_blocks, laid_length}
use Rattle.layout.specs.Layout.{format_number, state_size, head_size, is_mark, wide_number, kind_in, kind_octet, mark_octet, slot_head, slot_fields, slot_in, slot_octets, state_record, state_octets, mark_fits, marks_fit, slot_marks_fit, head_fits, known}
use Rattle.layout.specs.Changes.{Exact}
use Rattle.layout.specs.Shapes.{ShapedSlot, Shapes, shaped_none, shaped_more, Shaped, shapes_from}
use Rattle.layout.specs.Laws.{known_head, known_length, own_marks, take_most, pair_number, wide_pairs}

-- ---- what a value of the type is: numbers that fit their fields, sixteen lengths and marks, five slots
pub record TypedSlot (x : Slot) : Type 0 where
  pub rank : x.rank < 256
  pub beats : x.beats < 256
  pub sender : x.key.sender < 4294967296
  pub width : x.key.width < 256
  pub reference : x.key.reference < 65536
  pub serial : x.key.serial.0 < 65536
  pub identifier : x.key.identifier.0 < 65536
  pub total : x.total < 256
  pub lengths : Octets x.lengths
  pub sixteen : length x.lengths ≡ most_parts
  pub marks : length x.held ≡ most_parts

pub record Typed (r : Record) : Type 0 where
  pub count : r.count < 256
  pub five : length r.slots ≡ most_slots
  pub slots : (i : ℕ) → i < most_slots → TypedSlot (slot_at r.slots i)

pub typed_shaped : (r : Record) → Typed r → Shaped r
typed_shaped r w =
    let shape : (i : ℕ) → i < length r.slots → ShapedSlot (slot_at r.slots i) =
    λ i l. let v = w.slots i (omega (arith, w.five)) in record { sixteen = v.sixteen; marks = v.marks } in
    record { five = w.five; slots = shapes_from r.slots shape }

-- ---- a slot
marks_read : (bs : List Bool) → map is_mark (map mark_octet bs) ≡ bs
marks_read [] = refl
marks_read (true ∷ bs) = ap (λ (r : List Bool). true ∷ r) (marks_read bs)
marks_read (false ∷ bs) = ap (λ (r : List Bool). false ∷ r) (marks_read bs)

mark_low : (bs : List Bool) (k : ℕ) → leb (get_or (map mark_octet bs) k 0) 1 ≡ true
mark_low [] k = refl
mark_low (true ∷ bs) zero = refl
mark_low (false ∷ bs) zero = refl
mark_low (b ∷ bs) (suc k) = mark_low bs k

module _ (x : Slot) (sixteen : length x.lengths ≡ 16) (marks : length x.held ≡ 16) where
  held_size : length (map mark_octet x.held) ≡ 16
  held_size = length-map x.held mark_octet ∙ marks

  slot_behind : drop 30 (slot_octets x) ≡ map mark_octet x.held
  unfolding slot_octets
  slot_behind = drop_at x.lengths (map mark_octet x.held) 16 sixteen

  slot_size_lem : length (slot_octets x) ≡ slot_size
  unfolding slot_octets
  slot_size_lem = simp (length-append, sixteen, held_size)

  slot_marks : marks_fit (slot_octets x) ≡ true
  unfolding marks_fit
  slot_marks = all_hold most_parts (mark_fits (slot_octets x)) (λ k l. ap (λ (q : ℕ). leb q 1) (sym (get_or-drop 30 (slot_octets x) k 0) ∙ ap (λ (o : List ℕ). get_or o k 0) slot_behind) ∙ mark_low x.held k)

  slot_read : slot_in (slot_octets x) ≡ x
  unfolding slot_in slot_fields slot_octets
  slot_read =
      let lengths : take 16 (x.lengths ++ map mark_octet x.held) ≡ x.lengths = take_at x.lengths (map mark_octet x.held) 16 sixteen in
      let held : map is_mark (take 16 (drop 16 (x.lengths ++ map mark_octet x.held))) ≡ x.held =
      rw (drop_at x.lengths (map mark_octet x.held) 16 sixteen, take_all 16 (map mark_octet x.held) (omega (arith, held_size))) (marks_read x.held) in
      λ j. record {
        rank = x.rank;
        beats = x.beats;
        key = record { sender = wide_pairs x.key.sender j; width = x.key.width; reference = pair_number x.key.reference j; serial = record { 0 = pair_number x.key.serial.0 j }; identifier = record { 0 = pair_number x.key.identifier.0 j } };
        total = x.total;
        lengths = lengths j;
        held = held j;
      }

-- ---- the slots
all_sized : (xs : List Slot) → Shapes xs → Sized (map slot_octets xs)
all_sized [] shaped_none = sized_none
all_sized (x ∷ xs) (shaped_more w h) = sized_more (slot_size_lem x w.sixteen w.marks) (all_sized xs h)

all_read : (xs : List Slot) → Shapes xs → map slot_in (map slot_octets xs) ≡ xs
all_read [] shaped_none = refl
all_read (x ∷ xs) (shaped_more w h) = λ j. slot_read x w.sixteen w.marks j ∷ all_read xs h j

all_marks : (xs : List Slot) (i : ℕ) → i < length xs → Shapes xs → marks_fit (get_or (map slot_octets xs) i []) ≡ true
all_marks [] i l shaped_none = absurd (omega arith)
all_marks (x ∷ xs) zero l (shaped_more w h) = slot_marks x w.sixteen w.marks
all_marks (x ∷ xs) (suc i) l (shaped_more w h) = all_marks xs i (omega arith) h

-- ---- the record
kind_read : (k : Kind) → kind_in (kind_octet k) ≡ k
kind_read Command = refl
kind_read Response = refl

kind_low : (k : Kind) → leb (kind_octet k) 1 ≡ true
kind_low Command = refl
kind_low Response = refl

module _ (r : Record) (w : Shaped r) where
  size : length (map slot_octets r.slots) ≡ most_slots
  size = length-map r.slots slot_octets ∙ w.five

  slots_laid : blocks most_slots (drop head_size (state_octets r)) ≡ map slot_octets r.slots
  unfolding state_octets
  slots_laid =
      ap (λ (n : ℕ). blocks n (laid (map slot_octets r.slots))) (sym size) ∙ laid_blocks (map slot_octets r.slots) (all_sized r.slots w.slots)

  heads : record { kind = kind_in (get_or (state_octets r) 1 0); count = get_or (state_octets r) 2 0; slots = r.slots } ≡ r
  unfolding state_octets
  heads = λ j. record { kind = kind_read r.kind j; count = r.count; slots = r.slots }

  pub read_back : state_record (state_octets r) ≡ r
  unfolding state_record
  read_back = rw (slots_laid, all_read r.slots w.slots) heads

  pub octets_long : length (state_octets r) ≡ state_size
  unfolding state_octets
  octets_long =
      let e : length (laid (map slot_octets r.slots)) ≡ slot_size * most_slots =
      laid_length (map slot_octets r.slots) (all_sized r.slots w.slots) ∙ ap (λ (n : ℕ). slot_size * n) size in omega arith

  head : head_fits (state_octets r) ≡ true
  unfolding state_octets
  head = both_hold _ _ (both_hold _ _ (eq-eqb (length (state_octets r)) state_size octets_long) refl) (kind_low r.kind)

  pub known_octets : known (state_octets r) ≡ true
  unfolding known
  known_octets =
      both_hold (head_fits (state_octets r)) (all_below most_slots (slot_marks_fit (state_octets r))) head
      (all_hold most_slots (slot_marks_fit (state_octets r)) (λ i l. rw slots_laid (all_marks r.slots i (omega (arith, w.five)) w.slots)))

-- ---- each is an octet
data Small : List ℕ → Type 0 where
  nothing : Small []
  with_one : {o : List ℕ} (n : ℕ) → n < 256 → Small o → Small (n ∷ o)

small_octets : (o : List ℕ) → Small o → Octets o
small_octets [] nothing i = omega arith
small_octets (n ∷ o) (with_one m l h) zero = l
small_octets (n ∷ o) (with_one m l h) (suc i) = small_octets o h i

octets_small : (o : List ℕ) → Octets o → Small o
octets_small [] h = nothing
octets_small (n ∷ o) h = with_one n (h 0) (octets_small o (λ i. h (suc i)))

with_two : {o : List ℕ} (n : ℕ) → n < 65536 → Small o → Small (n / 256 ∷ n % 256 ∷ o)
with_two n l h = with_one (n / 256) (omega arith) (with_one (n % 256) (omega arith) h)

small_both : (a b : List ℕ) → Small a → Small b → Small (a ++ b)
small_both [] b nothing h = h
small_both (n ∷ a) b (with_one m l g) h = with_one n l (small_both a b g h)

small_marks : (bs : List Bool) → Small (map mark_octet bs)
small_marks [] = nothing
small_marks (true ∷ bs) = with_one 1 (omega arith) (small_marks bs)
small_marks (false ∷ bs) = with_one 0 (omega arith) (small_marks bs)

small_slot : (x : Slot) → TypedSlot x → Small (slot_octets x)
unfolding slot_octets
small_slot x w =
    with_one x.rank w.rank (with_one x.beats w.beats
    (with_two (x.key.sender / 65536) (omega (arith, w.sender)) (with_two (x.key.sender % 65536) (omega arith)
    (with_one x.key.width w.width (with_two x.key.reference w.reference (with_two x.key.serial.0 w.serial
    (with_two x.key.identifier.0 w.identifier (with_one x.total w.total
    (small_both x.lengths (map mark_octet x.held) (octets_small x.lengths w.lengths) (small_marks x.held))))))))))

abbrev Each : List Slot → Type 0
Each xs = (i : ℕ) → i < length xs → TypedSlot (slot_at xs i)

small_slots : (xs : List Slot) → Each xs → Small (laid (map slot_octets xs))
unfolding laid
small_slots [] h = nothing
small_slots (x ∷ xs) h =
    small_both (slot_octets x) (laid (map slot_octets xs)) (small_slot x (h 0 (omega arith))) (small_slots xs (λ i l. h (suc i) (omega arith)))

kind_small : (k : Kind) → kind_octet k < 256
kind_small Command = omega arith
kind_small Response = omega arith

pub octets_octets : (r : Record) → Typed r → Octets (state_octets r)
unfolding state_octets
octets_octets r w =
    small_octets (state_octets r)
    (with_one format_number (omega arith) (with_one (kind_octet r.kind) (kind_small r.kind) (with_one r.count w.count (small_slots r.slots (λ i l. w.slots i (omega (arith, w.five)))))))

-- ---- and octets that hold a record are its own: no two states hold the same one
octets_take : (n : ℕ) (o : List ℕ) → Octets o → Octets (take n o)
octets_take zero o h i = omega arith
octets_take (suc n) [] h i = omega arith
octets_take (suc n) (a ∷ o) h zero = h 0
octets_take (suc n) (a ∷ o) h (suc i) = octets_take n o (λ j. h (suc j)) i

octets_drop : (n : ℕ) (o : List ℕ) → Octets o → Octets (drop n o)
octets_drop n o h i = rw (get_or-drop n o i 0) (h (n + i))

marks_back : (ms : List ℕ) → ((k : ℕ) → k < length ms → leb (get_or ms k 0) 1 ≡ true) → map mark_octet (map is_mark ms) ≡ ms
marks_back [] h = refl
marks_back (m ∷ ms) h = λ j. mark m (leb-true m 1 (h 0 (omega arith))) j ∷ marks_back ms (λ k l. h (suc k) (omega arith)) j
  where
    mark : (q : ℕ) → q ≤ 1 → mark_octet (is_mark q) ≡ q
    mark zero l = refl
    mark (suc zero) l = refl
    mark (suc (suc q)) l = absurd (omega arith)

high_back : (a b : ℕ) → b < 256 → number_of a b / 256 ≡ a
high_back a b l = omega arith

low_back : (a b : ℕ) → b < 256 → number_of a b % 256 ≡ b
low_back a b l = omega arith

top_back : (a b : ℕ) → b < 65536 → wide_number a b / 65536 ≡ a
top_back a b l = omega arith

rest_back : (a b : ℕ) → b < 65536 → wide_number a b % 65536 ≡ b
rest_back a b l = omega arith

-- a list of just n
data Just : ℕ → List ℕ → Type 0 where
  end : Just 0 []
  next : {n : ℕ} {x : List ℕ} (a : ℕ) → Just n x → Just (suc n) (a ∷ x)

just : (n : ℕ) (x : List ℕ) → length x ≡ n → Just n x
just zero [] e = end
just zero (a ∷ x) e = absurd (omega arith)
just (suc n) [] e = absurd (omega arith)
just (suc n) (a ∷ x) e = next a (just n x (omega arith))

-- what is before the lengths
head_back : (h ns ms : List ℕ) → Just 14 h → Octets h → slot_head (slot_fields h ns ms) ≡ h
unfolding slot_fields
head_back hs ns ms (next a (next b (next c (next d (next e (next f (next g (next h (next i (next j (next k (next l (next m (next n end)))))))))))))) o =
    let low : number_of e f < 65536 = omega (arith, o 4, o 5) in
    rw (top_back (number_of c d) (number_of e f) low, rest_back (number_of c d) (number_of e f) low, high_back c d (o 3), low_back c d (o 3), high_back e f (o 5), low_back e f (o 5), high_back h i (o 8), low_back h i (o 8), high_back j k (o 10), low_back j k (o 10), high_back l m (o 12), low_back l m (o 12))

slot_back : (x : List ℕ) → length x ≡ slot_size → Octets x → marks_fit x ≡ true → slot_octets (slot_in x) ≡ x
unfolding slot_in slot_fields slot_octets marks_fit
slot_back x e o f =
    let ns : List ℕ = take 16 (drop 14 x) in
    let ms : List ℕ = take 16 (drop 30 x) in
    let head : slot_head (slot_fields (take 14 x) ns ms) ≡ take 14 x =
    head_back (take 14 x) ns ms (just 14 (take 14 x) (length-take-le 14 x (omega arith))) (octets_take 14 x o) in
    let marks : map mark_octet (map is_mark ms) ≡ ms = marks_back ms (λ k l. low k (omega (arith, take_most 16 (drop 30 x)))) in
    let rest : ns ++ ms ≡ drop 14 x =
    ap (λ (r : List ℕ). ns ++ take 16 r) (sym (drop-drop 16 14 x)) ∙ sym (take-add 16 16 (drop 14 x)) ∙ take_all 32 (drop 14 x) (simp length-drop (omega arith)) in
    (λ j. head j ++ (ns ++ marks j)) ∙ ap (λ (r : List ℕ). take 14 x ++ r) rest ∙ take-append-drop 14 x
  where
    low : (k : ℕ) → k < 16 → leb (get_or (take 16 (drop 30 x)) k 0) 1 ≡ true
    low k l = ap (λ (q : ℕ). leb q 1) (get_or-take 16 (drop 30 x) k 0 l ∙ get_or-drop 30 x k 0) ∙ all_at most_parts (mark_fits x) f k l

slots_back : (n : ℕ) (s : List ℕ) → length s ≡ slot_size * n → Octets s → ((i : ℕ) → i < n → marks_fit (get_or (blocks n s) i []) ≡ true)
    → laid (map slot_octets (map slot_in (blocks n s))) ≡ s
unfolding blocks laid
slots_back zero [] e o f = refl
slots_back zero (a ∷ s) e o f = absurd (omega arith)
slots_back (suc n) s e o f =
    let here : slot_octets (slot_in (take slot_size s)) ≡ take slot_size s =
    slot_back (take slot_size s) (length-take-le slot_size s (omega arith)) (octets_take slot_size s o) (f 0 (omega arith)) in
    let there : laid (map slot_octets (map slot_in (blocks n (drop slot_size s)))) ≡ drop slot_size s =
    slots_back n (drop slot_size s) (simp length-drop (omega arith)) (octets_drop slot_size s o) (λ i l. f (suc i) (omega arith)) in
    (λ j. here j ++ there j) ∙ take-append-drop slot_size s

front_back : (s : List ℕ) → 3 ≤ length s → get_or s 0 0 ∷ get_or s 1 0 ∷ get_or s 2 0 ∷ drop 3 s ≡ s
front_back [] l = absurd (omega arith)
front_back (a ∷ []) l = absurd (omega arith)
front_back (a ∷ b ∷ []) l = absurd (omega arith)
front_back (a ∷ b ∷ c ∷ s) l = refl

kind_back : (q : ℕ) → q ≤ 1 → kind_octet (kind_in q) ≡ q
kind_back zero l = refl
kind_back (suc zero) l = refl
kind_back (suc (suc q)) l = absurd (omega arith)

pub state_back : (s : List ℕ) → known s ≡ true → Octets s → state_octets (state_record s) ≡ s
unfolding state_octets state_record
state_back s k o =
    let size : length s ≡ state_size = known_length s k in
    let (h, kind) = both (eqb (length s) state_size && eqb (get_or s 0 0) format_number) (leb (get_or s 1 0) 1) (known_head s k) in
    let format : get_or s 0 0 ≡ format_number = eqb-true (get_or s 0 0) format_number (both (eqb (length s) state_size) (eqb (get_or s 0 0) format_number) h).1 in
    let slots : laid (map slot_octets (map slot_in (blocks most_slots (drop head_size s)))) ≡ drop head_size s =
    slots_back most_slots (drop head_size s) (simp length-drop (omega arith)) (octets_drop head_size s o) (λ i l. own_marks s k i l) in
    (λ j. sym format j ∷ kind_back (get_or s 1 0) (leb-true (get_or s 1 0) 1 kind) j ∷ get_or s 2 0 ∷ slots j) ∙ front_back s (omega arith)

pub octets_exact : (s : List ℕ) → length s ≡ state_size → Octets s → Exact s
octets_exact s e o = record { size = e; back = λ k. state_back s k o }
