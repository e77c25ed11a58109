-- "Order and repetition" (02 [10]): what may differ if the parts of one key come in another order, or more than once, with nothing between. For every
-- number of slots, both kinds, messages and pages; from any well-formed record, not only one that calls lead to, and with any cells of its length.
use Rattle.std.specs.Prelude.{ℕ, ◌≡◌, Bool, true, false, not, cond, ◌&&◌, List, [], ◌∷◌, map, length, drop, eqb}
use Rattle.types.specs.declared.Kind.{Kind}
use Rattle.types.specs.declared.Kind.TheVariants.{Command}
use Rattle.types.specs.Refusals as reading
use Rattle.types.specs.declared.Key.{Key}
use Rattle.arrival.specs.Arrivals.{part}
use Rattle.formed.specs.Formed.{record_formed}
use Rattle.cells.specs.Cells.{cells_size}
use Rattle.series.specs.Taking.{Answer, kept, held_already, packet, refused_by, after}
use Rattle.series.specs.Calls.{read, octets_of}
use Rattle.sequences.specs.Lists.{elem}
use Rattle.sequences.specs.Runs.{Call, takes, Store, outcome, left, run, ProperCall, fresh}
use Rattle.sequences.specs.Reached.{key, call_from, stranger, cells}

-- ---- what it is said of
-- a well-formed record of n slots and that kind, and cells of its length
pub record AnyStore (n : ℕ) (k : Kind) (st : Store) : Type 0 where
  pub formed : record_formed n st.rec ≡ true
  pub kind : st.rec.kind ≡ k
  pub size : length st.cells ≡ cells_size n

-- a call whose octets read as the part of the key with that total and number, and with these octets of its own
pub record BringsPart (k : Kind) (K : Key) (total number : ℕ) (own : List ℕ) (c : Call) : Type 0 where
  pub proper : ProperCall c
  pub start : ℕ
  pub reads : read k c.input ≡ reading.gives (part K total number start)
  pub brings : drop start (octets_of c.input) ≡ own

-- ---- twice
-- "A part answered 'kept', brought again at once, is answered 'held already' and leaves record and cells equal": with the same slot, by the same call
-- or by another that brings the part. The output stays as it was lent.
abbrev pub KeptThenHeld : ℕ → Type 0
KeptThenHeld n = (k : Kind) (st : Store) → AnyStore n k st → (K : Key) (total number : ℕ) (own : List ℕ) (c d : Call)
    → BringsPart k K total number own c → BringsPart k K total number own d
    → (slot : ℕ) (mark : Bool) → (outcome n st c).answer ≡ kept slot mark
    → outcome n (left (outcome n st c)) d ≡ after (held_already slot) (left (outcome n st c)).rec (left (outcome n st c)).cells d.output

-- ---- in either order
-- "Two parts of one key with different numbers, both answered 'kept' when brought in a row, are both 'kept' in the other order, with equal record and
-- cells afterwards", every octet of the cells; and in the same slot. "Only the mark of displacement may stand at the other answer": it stands at the
-- first answer of each order or at none, and at the first of one exactly if at the first of the other.
pub record Exchanged (n : ℕ) (st : Store) (c d : Call) (slot : ℕ) (mark : Bool) (slot' : ℕ) (mark' : Bool) : Type 0 where
  pub same_slot : slot' ≡ slot
  pub no_second_mark : mark' ≡ false
  pub first_answer : (outcome n st d).answer ≡ kept slot mark
  pub second_answer : (outcome n (left (outcome n st d)) c).answer ≡ kept slot false
  pub equal : left (outcome n (left (outcome n st d)) c) ≡ left (outcome n (left (outcome n st c)) d)

abbrev pub EitherOrder : ℕ → Type 0
EitherOrder n = (k : Kind) (st : Store) → AnyStore n k st → (K : Key) (total total' number number' : ℕ) (own own' : List ℕ) (c d : Call)
    → BringsPart k K total number own c → BringsPart k K total' number' own' d → (number ≡ number' → ⊥)
    → (slot : ℕ) (mark : Bool) → (outcome n st c).answer ≡ kept slot mark
    → (slot' : ℕ) (mark' : Bool) → (outcome n (left (outcome n st c)) d).answer ≡ kept slot' mark'
    → Exchanged n st c d slot mark slot' mark'

-- ---- any orders
-- calls one after the other: their answers, and what the last leaves
abbrev pub answers_of : ℕ → Store → List Call → List Answer
answers_of n st [] = []
answers_of n st (c ∷ cs) = (outcome n st c).answer ∷ answers_of n (left (outcome n st c)) cs

abbrev pub left_after : ℕ → Store → List Call → Store
left_after n st cs = run n st (map takes cs)

-- "not yet complete": a call that completes its series is answered with a packet or refused 9
abbrev pub not_complete : Answer → Bool
not_complete a = elim a [ kept i d ↦ true | held_already i ↦ true | packet m ↦ false | refused_by m ↦ not (eqb m 9) ]

abbrev pub none_complete : List Answer → Bool
none_complete [] = true
none_complete (a ∷ l) = not_complete a && none_complete l

-- The answer to a part, from the one that it would get if it came first of all: first of all, that; behind parts of other numbers, that without the
-- mark of displacement; behind itself, "held already" instead of "kept". Refusals 7 and 8 stay what they are.
abbrev pub unmarked : Answer → Answer
unmarked a = elim a [ kept i d ↦ kept i false | held_already i ↦ held_already i | packet m ↦ packet m | refused_by m ↦ refused_by m ]

abbrev pub repeated : Answer → Answer
repeated a = elim a [ kept i d ↦ held_already i | held_already i ↦ held_already i | packet m ↦ packet m | refused_by m ↦ refused_by m ]

abbrev pub answered_behind : List ℕ → ℕ → Answer → Answer
answered_behind [] number a = a
answered_behind (j ∷ behind) number a = cond (elem number (j ∷ behind)) (repeated a) (unmarked a)

module _ (k : Kind) (K : Key) (total : ℕ) (own : ℕ → List ℕ) where
  -- the calls bring the parts of these numbers, in this order; the same number brings the same octets
  pub data BringInOrder : List Call → List ℕ → Type 0 where
    none_brought : BringInOrder [] []
    first_brought : (c : Call) (cs : List Call) (number : ℕ) (l : List ℕ) → BringsPart k K total number (own number) c → BringInOrder cs l → BringInOrder (c ∷ cs) (number ∷ l)

-- what calls are answered, behind calls with parts of the numbers `behind`, if each would be answered so first of all
abbrev pub all_answered : (Call → Answer) → List ℕ → List Call → List ℕ → List Answer
all_answered alone behind (c ∷ cs) (number ∷ l) = answered_behind behind number (alone c) ∷ all_answered alone (number ∷ behind) cs l
all_answered alone behind [] l = []
all_answered alone behind (c ∷ cs) [] = []

-- an answer that names a slot names this one; and so does each of a list
abbrev pub Names : ℕ → Answer → Type 0
Names slot a = elim a [ kept i d ↦ i ≡ slot | held_already i ↦ i ≡ slot | packet m ↦ Unit {0} | refused_by m ↦ Unit {0} ]

abbrev pub AllName : ℕ → List Answer → Type 0
AllName slot [] = Unit {0}
AllName slot (a ∷ l) = Names slot a × AllName slot l

-- Any two orders of the same parts of one key, repeats allowed, of which one completes no series: neither does the other, both lead to the same
-- record and cells, each answer is told from the answer that its part would get first of all, and all of both orders name one slot.
pub record Shuffled (n : ℕ) (st : Store) (cs ds : List Call) (l : List ℕ) : Type 0 where
  pub none_complete_lem : none_complete (answers_of n st ds) ≡ true
  pub equal : left_after n st ds ≡ left_after n st cs
  pub answered : answers_of n st ds ≡ all_answered (λ c. (outcome n st c).answer) [] ds l
  pub slot : ℕ
  pub one_slot : AllName slot (answers_of n st cs)
  pub same_slot : AllName slot (answers_of n st ds)

abbrev pub AnyOrder : ℕ → Type 0
AnyOrder n = (k : Kind) (st : Store) → AnyStore n k st → (K : Key) (total : ℕ) (own : ℕ → List ℕ) (cs ds : List Call) (l m : List ℕ)
    → BringInOrder k K total own cs l → BringInOrder k K total own ds m → ((number : ℕ) → elem number l ≡ elem number m)
    → none_complete (answers_of n st cs) ≡ true → Shuffled n st cs ds m

-- ---- an example
-- Parts 2 and 3 of three, under the key of sender 1 with the 8-bit reference 2A, come to a record of one slot that holds the series of another sender.
-- Whichever comes first displaces it. Buffers are filled with any octet.
module _ (b : ℕ) where
  abbrev pub occupied : Store
  occupied = left (outcome 1 (fresh 1 Command (cells 1 b)) (stranger b 2))

  abbrev pub of_three : ℕ → Call
  of_three number = call_from b 1 (0x05 ∷ 0x00 ∷ 0x03 ∷ 0x2A ∷ 0x03 ∷ number ∷ number ∷ [])

  abbrev pub one_order : List Call
  one_order = of_three 2 ∷ of_three 3 ∷ of_three 2 ∷ []

  abbrev pub other_order : List Call
  other_order = of_three 3 ∷ of_three 3 ∷ of_three 2 ∷ []

  -- the premises hold, and the answers are these
  pub record ShuffledSo : Type 0 where
    pub any_store : AnyStore 1 Command occupied
    pub one_brings : BringInOrder Command key 3 (λ number. number ∷ []) one_order (2 ∷ 3 ∷ 2 ∷ [])
    pub other_brings : BringInOrder Command key 3 (λ number. number ∷ []) other_order (3 ∷ 3 ∷ 2 ∷ [])
    pub one_answered : answers_of 1 occupied one_order ≡ kept 0 true ∷ kept 0 false ∷ held_already 0 ∷ []
    pub other_answered : answers_of 1 occupied other_order ≡ kept 0 true ∷ held_already 0 ∷ kept 0 false ∷ []
    pub equal : left_after 1 occupied other_order ≡ left_after 1 occupied one_order
