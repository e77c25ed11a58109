-- What the proofs of `whole` search: an array filled from its start, the fields of a slot and the slots of a record told together, and runs of octets
-- put one behind the other.
use Prim.Native.Nat.{ℕ, suc, ◌+◌, ◌*◌, ◌/◌, ◌%◌, ◌≤◌, ◌<◌}
use mathlib.Core.Path.{◌≡◌, refl, sym, ap, ◌∙◌}
use mathlib.Core.Bool.{Bool, true, false}
use mathlib.Core.List.{List, [], ◌∷◌, ◌++◌, map, append_assoc, append-nil}
use native.Mathlib.Omega.{arith}
use native.Mathlib.Numerals.{add-one}
use mir.Val.{bool_byte}
use lib.ListN.{length, get_or, set, take, drop, replicate, length-set, length-map, length-append, take-append-drop, get_or-map}
use lib.Seq.{ext_get_or, get_or-set_same, get_or-set_other, take-suc, take_all, drop-length}
use borrow.Author.Rules.{rules}
use Rattle.octets.specs.Octets.{placed, after_put, pair_of}
use Rattle.octets.specs.Laws.{put_fits, length_placed, placed_next}
use Rattle.octets.specs.Tests.{Same, same, other, same?}
use Rattle.types.specs.declared.Pair.{Pair}
use Rattle.types.specs.declared.Kind.{Kind}
use Rattle.types.specs.declared.Key.{Key}
use Rattle.types.specs.declared.Slot.{Slot}
use Rattle.types.specs.declared.Record.{Record}
use Rattle.arrival.specs.Message.{most_parts}
use Rattle.slots.specs.Found.{length_of_map}
use Rattle.slots.specs.Slots.{most_slots, slot_at}
use Rattle.layout.specs.Blocks.{slot_size, blocks, laid}
use Rattle.layout.specs.Layout.{format_number, state_size, head_size, kind_octet, mark_octet, slot_head, slot_octets, state_record, state_octets}
use Rattle.layout.specs.Changes.{state_slot, Exact}
use Rattle.layout.specs.Shapes.{ShapedSlot}
use Rattle.layout.specs.Laws.{lengths_sixteen, marks_sixteen}

-- ---- an array filled from its start, k of its elements so far, with those of xs
pub record Filled {A : Type 0} (d : A) (xs a : List A) (k : ℕ) : Type 0 where
  pub size : length a ≡ most_parts
  pub whole : length xs ≡ most_parts
  pub here : (j : ℕ) → j < k → get_or a j d ≡ get_or xs j d

pub fill_starts : {A : Type 0} (d : A) (xs : List A) → length xs ≡ most_parts → Filled d xs (replicate most_parts d) 0
fill_starts d xs e = record { size = refl; whole = e; here = λ j l. absurd (omega arith) }

module _ {A : Type 0} (d : A) (xs a : List A) (k : ℕ) (f : Filled d xs a k) where
  pub fill_goes_on : (v : A) → v ≡ get_or xs k d → k < most_parts → Filled d xs (set a k v) (k + 1)
  fill_goes_on v e l = record { size = length-set a k v ∙ f.size; whole = f.whole; here = λ j m. go j m (same? j k) }
    where
      go : (j : ℕ) → j < k + 1 → Same j k → get_or (set a k v) j d ≡ get_or xs j d
      go j m (same t q) = ap (λ (i : ℕ). get_or (set a k v) i d) q ∙ get_or-set_same a k v d (omega (arith, f.size)) ∙ e ∙ ap (λ (i : ℕ). get_or xs i d) (sym q)
      go j m (other t ne) = get_or-set_other a k j v d ne ∙ f.here j (omega arith)

  pub fill_ends : most_parts ≤ k → a ≡ xs
  fill_ends l = ext_get_or d a xs (f.size ∙ sym f.whole) (λ i m. f.here i (omega (arith, f.size)))

pub mark_told : (held : List Bool) (k : ℕ) → bool_byte (get_or held k false) ≡ get_or (map mark_octet held) k 0
mark_told held k = go (get_or held k false) ∙ sym (get_or-map mark_octet held k false)
  where
    go : (b : Bool) → bool_byte b ≡ mark_octet b
    go true = refl
    go false = refl

pub marks_long : (held : List Bool) → length held ≡ most_parts → length (map mark_octet held) ≡ most_parts
marks_long held e = length-map held mark_octet ∙ e

pub exact_lengths : (s : List ℕ) (i : ℕ) → Exact s → i < most_slots → length (state_slot s i).lengths ≡ most_parts
exact_lengths s i own l = lengths_sixteen s own.size i l

pub exact_marks : (s : List ℕ) (i : ℕ) → Exact s → i < most_slots → length (state_slot s i).held ≡ most_parts
exact_marks s i own l = marks_sixteen s own.size i l

-- ---- reading
pub slot_told : (x : Slot) (rank beats : ℕ) (key : Key) (total : ℕ) (lengths : List ℕ) (held : List Bool) → rank ≡ x.rank → beats ≡ x.beats → key ≡ x.key
    → total ≡ x.total → lengths ≡ x.lengths → held ≡ x.held
    → record { rank = rank; beats = beats; key = key; total = total; lengths = lengths; held = held } ≡ x
slot_told x rank beats key total lengths held a b c d e f =
    λ j. record { rank = a j; beats = b j; key = c j; total = d j; lengths = e j; held = f j }

pub record_told : (s : List ℕ) (k : Kind) (n : ℕ) (a b c d e : Slot) → k ≡ (state_record s).kind → n ≡ (state_record s).count → a ≡ state_slot s 0
    → b ≡ state_slot s 1 → c ≡ state_slot s 2 → d ≡ state_slot s 3 → e ≡ state_slot s 4
    → record { kind = k; count = n; slots = a ∷ b ∷ c ∷ d ∷ e ∷ [] } ≡ state_record s
unfolding state_record blocks
record_told s k n a b c d e p q f g h i j = λ z. record { kind = p z; count = q z; slots = f z ∷ g z ∷ h z ∷ i z ∷ j z ∷ [] }

-- ---- writing
pub head_told : (x : Slot) (p q r s t : Pair) (a b : ℕ) → a ≡ x.key.sender / 65536 → b ≡ x.key.sender % 65536 → p ≡ pair_of a → q ≡ pair_of b
    → r ≡ pair_of x.key.reference → s ≡ pair_of x.key.serial.0 → t ≡ pair_of x.key.identifier.0
    → x.rank ∷ x.beats ∷ p.0 ∷ p.1 ∷ q.0 ∷ q.1 ∷ x.key.width ∷ r.0 ∷ r.1 ∷ s.0 ∷ s.1 ∷ t.0 ∷ t.1 ∷ x.total ∷ [] ≡ slot_head x
head_told x p q r s t a b e f g h i j k = rw (g, h, i, j, k, e, f)

-- three runs, one behind the other, are the octets of a slot
module _ (x : Slot) (w : ShapedSlot x) where
  pub slot_long : length (slot_octets x) ≡ slot_size
  unfolding slot_octets
  slot_long = simp (length-append, w.sixteen, marks_long x.held w.marks)

  pub slot_put : (s t u v h m : List ℕ) (at : ℕ) → at + slot_size ≤ length s → h ≡ slot_head x → m ≡ map mark_octet x.held → t ≡ after_put s at h
      → u ≡ after_put t (at + 14) x.lengths → v ≡ after_put u (at + 30) m → v ≡ placed s at (slot_octets x)
  unfolding slot_octets
  slot_put s t u v h m at l e f a b c =
      let hs : length h ≡ 14 = ap length e in
      let ms : length m ≡ 16 = ap length f ∙ marks_long x.held w.marks in
      let ls : length x.lengths ≡ 16 = w.sixteen in
      let one : t ≡ placed s at h = a ∙ put_fits s at h (omega arith) in
      let long : length t ≡ length s = ap length one ∙ length_placed s at h (omega arith) in
      let two : u ≡ placed t (at + length h) x.lengths = b ∙ put_fits t (at + 14) x.lengths (omega arith) ∙ ap (λ (n : ℕ). placed t (at + n) x.lengths) (sym hs) in
      let both : u ≡ placed s at (h ++ x.lengths) = two ∙ ap (λ (o : List ℕ). placed o (at + length h) x.lengths) one ∙ placed_next s at h x.lengths (omega arith) in
      let size : length (h ++ x.lengths) ≡ 30 = length-append h x.lengths ∙ omega arith in
      let long' : length u ≡ length s = ap length both ∙ length_placed s at (h ++ x.lengths) (omega arith) in
      let three : v ≡ placed u (at + length (h ++ x.lengths)) m = c ∙ put_fits u (at + 30) m (omega arith) ∙ ap (λ (n : ℕ). placed u (at + n) m) (sym size) in
      three ∙ ap (λ (o : List ℕ). placed o (at + length (h ++ x.lengths)) m) both ∙ placed_next s at (h ++ x.lengths) m (omega arith)
      ∙ ap (λ (o : List ℕ). placed s at o) (append_assoc h x.lengths m ∙ rw (e, f))

-- ---- the slots, one after the other
abbrev runs : List Slot → ℕ → List ℕ
runs xs i = laid (map slot_octets (take i xs))

pub record Laying (s t : List ℕ) (xs : List Slot) (i : ℕ) : Type 0 where
  pub within : i ≤ most_slots
  pub enough : length s ≡ state_size
  pub five : length xs ≡ most_slots
  pub size : length (runs xs i) ≡ slot_size * i
  pub now : t ≡ placed s head_size (runs xs i)

-- what is before them
abbrev headed : List ℕ → ℕ → ℕ → List ℕ
headed s k n = set (set (set s 0 format_number) 1 k) 2 n

headed_long : (s : List ℕ) (k n : ℕ) → length (headed s k n) ≡ length s
headed_long s k n = length-set (set (set s 0 format_number) 1 k) 2 n ∙ length-set (set s 0 format_number) 1 k ∙ length-set s 0 format_number

headed_head : (s : List ℕ) (k n : ℕ) → 3 ≤ length s → take head_size (headed s k n) ≡ format_number ∷ k ∷ n ∷ []
headed_head [] k n l = absurd (omega arith)
headed_head (a ∷ []) k n l = absurd (omega arith)
headed_head (a ∷ b ∷ []) k n l = absurd (omega arith)
headed_head (a ∷ b ∷ c ∷ s) k n l = refl

pub laying_starts : (s : List ℕ) (k n : ℕ) (xs : List Slot) → Exact s → length xs ≡ most_slots → Laying (headed s k n) (headed s k n) xs 0
unfolding laid placed
laying_starts s k n xs own f = record {
  within = omega arith;
  enough = headed_long s k n ∙ own.size;
  five = f;
  size = refl;
  now = sym (take-append-drop head_size (headed s k n));
}

laid_more : (bs : List (List ℕ)) (b : List ℕ) → laid (bs ++ (b ∷ [])) ≡ laid bs ++ b
unfolding laid
laid_more [] b = append-nil b
laid_more (a ∷ bs) b = ap (λ (o : List ℕ). a ++ o) (laid_more bs b) ∙ sym (append_assoc a (laid bs) b)

map_more : (xs : List Slot) (x : Slot) → map slot_octets (xs ++ (x ∷ [])) ≡ map slot_octets xs ++ (slot_octets x ∷ [])
map_more [] x = refl
map_more (y ∷ xs) x = ap (λ (o : List (List ℕ)). slot_octets y ∷ o) (map_more xs x)

module _ (s t : List ℕ) (xs : List Slot) (i : ℕ) (w : Laying s t xs i) where
  long : length t ≡ length s
  long = ap length w.now ∙ length_placed s head_size (runs xs i) (omega (arith, w.size, w.enough, w.within))

  pub laying_room : i < most_slots → head_size + slot_size * i + slot_size ≤ length t
  laying_room l = omega (arith, long, w.enough)

  more : i < most_slots → runs xs (suc i) ≡ runs xs i ++ slot_octets (slot_at xs i)
  more l =
      ap (λ (ys : List Slot). laid (map slot_octets ys)) (take-suc xs i _ (omega (arith, w.five)))
      ∙ ap laid (map_more (take i xs) (slot_at xs i)) ∙ laid_more (map slot_octets (take i xs)) (slot_octets (slot_at xs i))

  pub laying_goes_on : (u : List ℕ) → i < most_slots → length (slot_octets (slot_at xs i)) ≡ slot_size
      → u ≡ placed t (head_size + slot_size * i) (slot_octets (slot_at xs i)) → Laying s u xs (i + 1)
  laying_goes_on u l e f = rw add-one (record {
    within = omega arith;
    enough = w.enough;
    five = w.five;
    size = ap length (more l) ∙ length-append (runs xs i) (slot_octets (slot_at xs i)) ∙ omega (arith, w.size, e);
    now = f ∙ ap (λ (n : ℕ). placed t (head_size + n) (slot_octets (slot_at xs i))) (sym w.size)
        ∙ ap (λ (o : List ℕ). placed o (head_size + length (runs xs i)) (slot_octets (slot_at xs i))) w.now
        ∙ placed_next s head_size (runs xs i) (slot_octets (slot_at xs i)) (omega (arith, w.enough)) ∙ ap (λ (o : List ℕ). placed s head_size o) (sym (more l));
  })

-- behind the last they are the octets of the record
pub laying_ends : (s t : List ℕ) (r : Record) (k i : ℕ) → Exact s → k ≡ kind_octet r.kind → Laying (headed s k r.count) t r.slots i → most_slots ≤ i
    → t ≡ state_octets r
unfolding state_octets placed
laying_ends s t r k i own e w l =
    let end : i ≡ most_slots = omega (arith, w.within) in
    let all : runs r.slots i ≡ laid (map slot_octets r.slots) = ap (λ (xs : List Slot). laid (map slot_octets xs)) (take_all i r.slots (omega (arith, w.five))) in
    let none : drop (head_size + length (runs r.slots i)) (headed s k r.count) ≡ [] =
    ap (λ (n : ℕ). drop n (headed s k r.count)) (let z : head_size + length (runs r.slots i) ≡ length (headed s k r.count) = omega (arith, w.size, w.enough, end) in z) ∙ drop-length (headed s k r.count) in
    w.now ∙ (λ j. headed_head s k r.count (omega (arith, own.size)) j ++ (runs r.slots i ++ none j))
    ∙ (λ j. format_number ∷ e j ∷ r.count ∷ (append-nil (runs r.slots i) ∙ all) j)

pub ruleset steps = (
  rules,
  length_of_map,
  fill_starts,
  fill_goes_on,
  fill_ends,
  mark_told,
  marks_long,
  exact_lengths,
  exact_marks,
  slot_told,
  record_told,
  head_told,
  slot_long,
  slot_put,
  laying_starts,
  laying_room,
  laying_goes_on,
  laying_ends,
)
