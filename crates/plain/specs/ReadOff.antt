-- The record is what is read off the log: `record_of`, and the law that a well-formed record which is the same as a log is this one.
use Prim.Native.Nat.{ℕ, zero, suc, ◌+◌, ◌-◌, ◌<◌}
use Rattle.std.specs.Prelude.{◌≡◌, Bool, length}
use Rattle.std.proofs.Math.Path.{refl, subst}
use Rattle.std.proofs.Common.{sym, ◌∙◌, arith, ext_get_or, eqb-true, ltb-true, ltb-false}
use Rattle.std.proofs.Math.Bool.{true, false}
use mathlib.Core.List.{List, [], ◌∷◌, ◌++◌}
use Rattle.std.proofs.Math.Option.{Option, none, some}
use Rattle.std.proofs.Math.ListN.{get_or, length-append, get_or-append}
use Rattle.std.proofs.Math.Seq.{get_or-append_seam}
use Rattle.std.proofs.Math.Dec.{ltb}
use Rattle.octets.specs.Tests as tests
use Rattle.octets.specs.Tests.{clash, same?}
use Rattle.types.specs.declared.Kind.{Kind}
use Rattle.types.specs.declared.Slot.{Slot}
use Rattle.types.specs.declared.Record.{Record}
use Rattle.arrival.specs.Message.{most_parts}
use Rattle.slots.specs.FrontLaws.{past}
use Rattle.slots.specs.Slots.{most_slots, free_slot, slot_at, used}
use Rattle.formed.specs.Formed.{mark_at, size_at, slot_formed}
use Rattle.formed.specs.Laws.{Formed, UsedSlot}
use Rattle.formed.specs.SlotLaws.{free_is}
use Rattle.plain.specs.Entries.{Entry}
use Rattle.plain.specs.Log.{first_entry, is_some, has_entry, of_slot, is_part}
use Rattle.plain.specs.Same.{Fits, SameLog}
use Rattle.plain.specs.Walks.{is_part_lem, first_tells, Finds, finds_one, finds_none, finds?}
use Rattle.plain.specs.Copies.{used_at, has_part, has_slot, no_slot}

-- f 0, f 1, .. f (m - 1)
module _ {A : Type 0} where
  unfoldable pub each : (ℕ → A) → ℕ → List A
  each f zero = []
  each f (suc m) = each f m ++ f m ∷ []

  pub each_long : (f : ℕ → A) (m : ℕ) → length (each f m) ≡ m
  unfolding each
  each_long f zero = refl
  each_long f (suc m) = let ih = each_long f m in simp length-append (omega arith)

  pub each_at : (f : ℕ → A) (d : A) (m i : ℕ) → i < m → get_or (each f m) i d ≡ f i
  unfolding each
  each_at f d zero i l = absurd (omega arith)
  each_at f d (suc m) i l = go (same? i m) (each_at f d m i)
    where
      go : tests.Same i m → (i < m → get_or (each f m) i d ≡ f i) → get_or (each f m ++ f m ∷ []) i d ≡ f i
      go (tests.same e p) ih =
          subst (λ (k : ℕ). get_or (each f m ++ f m ∷ []) k d ≡ f k) (sym p)
          (subst (λ (k : ℕ). get_or (each f m ++ f m ∷ []) k d ≡ f m) (each_long f m) (get_or-append_seam (each f m) (f m) [] d))
      go (tests.other e p) ih = get_or-append (each f m) (f m ∷ []) d i (omega (arith, each_long f m)) ∙ ih (omega arith)

-- ---- what is read off a log
abbrev pub entry_size : Option Entry → ℕ
entry_size none = 0
entry_size (some e) = e.size

-- Slot i is free if no entry names it. Else its first entry says what is noted of the series, and the walks for the sixteen parts say which are held.
abbrev pub slot_from_log : List Entry → ℕ → Option Entry → Slot
slot_from_log log i none = free_slot
slot_from_log log i (some e) = record {
  rank = e.rank;
  beats = e.beats;
  key = e.key;
  total = e.total;
  lengths = each (λ j. entry_size (first_entry (is_part i (j + 1)) log)) most_parts;
  held = each (λ j. has_entry (is_part i (j + 1)) log) most_parts;
}

unfoldable pub slot_in_log : List Entry → ℕ → Slot
slot_in_log log i = slot_from_log log i (first_entry (of_slot i) log)

abbrev pub record_of : ℕ → Kind → List Entry → Record
record_of n k log = record { kind = k; count = n; slots = each (slot_in_log log) most_slots }

module _ (n : ℕ) (k : Kind) (xs : List Slot) (cells : List ℕ) (log : List Entry) (w : Formed n k xs) (h : SameLog n xs cells log) where
  module _ (i : ℕ) (l : i < n) (used : 0 < (slot_at xs i).rank) where
    abbrev x : Slot
    x = slot_at xs i

    u : UsedSlot k x
    u = used_at n k xs cells log w h i l used

    mark : (j : ℕ) → j < most_parts → has_entry (is_part i (j + 1)) log ≡ mark_at x j
    mark j b = let v : j + 1 - 1 ≡ j = omega arith in has_part n k xs cells log w h i (j + 1) l (omega arith) (omega arith) ∙ rw v

    size_at_lem : (j : ℕ) → j < most_parts → (r : Option Entry) → Finds (is_part i (j + 1)) log r → is_some r ≡ mark_at x j → entry_size r ≡ size_at x j
    size_at_lem j m r (finds_one e q) z =
        let (f, t) = first_tells (Fits n xs cells) (is_part i (j + 1)) log h.each e q in
        let (a, b) = is_part_lem i (j + 1) e t in
        let v : e.number - 1 ≡ j = omega arith in
        sym f.size ∙ rw (a, v)
    size_at_lem j m r (finds_none q) z = sym (eqb-true (size_at x j) 0 (simp (sym z) at (u.parts j m)))

    marks : each (λ j. has_entry (is_part i (j + 1)) log) most_parts ≡ x.held
    marks =
        ext_get_or false (each (λ j. has_entry (is_part i (j + 1)) log) most_parts) x.held (each_long (λ j. has_entry (is_part i (j + 1)) log) most_parts ∙ sym u.marks)
        (λ j m. let b : j < most_parts = omega (arith, each_long (λ j. has_entry (is_part i (j + 1)) log) most_parts) in
        each_at (λ j. has_entry (is_part i (j + 1)) log) false most_parts j b ∙ mark j b)

    sizes : each (λ j. entry_size (first_entry (is_part i (j + 1)) log)) most_parts ≡ x.lengths
    sizes =
        ext_get_or 0 (each (λ j. entry_size (first_entry (is_part i (j + 1)) log)) most_parts) x.lengths (each_long (λ j. entry_size (first_entry (is_part i (j + 1)) log)) most_parts ∙ sym u.lengths)
        (λ j m. let b : j < most_parts = omega (arith, each_long (λ j. entry_size (first_entry (is_part i (j + 1)) log)) most_parts) in
        each_at (λ j. entry_size (first_entry (is_part i (j + 1)) log)) 0 most_parts j b ∙ size_at_lem j b (first_entry (is_part i (j + 1)) log) (finds? (is_part i (j + 1)) log) (mark j b))

    used_slot : (r : Option Entry) → Finds (of_slot i) log r → slot_from_log log i r ≡ x
    used_slot r (finds_one e q) =
        let (f, t) = first_tells (Fits n xs cells) (of_slot i) log h.each e q in
        let p : e.slot ≡ i = eqb-true e.slot i t in
        let a : e.rank ≡ x.rank = sym f.rank ∙ rw p in
        let o : e.beats ≡ x.beats = sym f.beats ∙ rw p in
        let b : e.key ≡ x.key = sym f.key ∙ rw p in
        let c : e.total ≡ x.total = sym f.total ∙ rw p in
        let ls = sizes in
        let hs = marks in
        λ d. record { rank = a d; beats = o d; key = b d; total = c d; lengths = ls d; held = hs d }
    used_slot r (finds_none q) = absurd (clash (has_entry (of_slot i) log) (has_slot n k xs cells log w h i l used) q)

  free_slot_lem : (i : ℕ) → slot_formed k (slot_at xs i) ≡ true → (slot_at xs i).rank ≡ 0 → (r : Option Entry) → Finds (of_slot i) log r → slot_from_log log i r ≡ slot_at xs i
  free_slot_lem i f z r (finds_none q) = sym (free_is k (slot_at xs i) f z)
  free_slot_lem i f z r (finds_one e q) = absurd (clash (has_entry (of_slot i) log) (rw q) (no_slot n k xs cells log w h i z))

  slot_read : (i : ℕ) → i < most_slots → slot_in_log log i ≡ slot_at xs i
  unfolding slot_in_log
  slot_read i l = go (ltb i n) refl (same? (slot_at xs i).rank 0)
    where
      go : (b : Bool) → ltb i n ≡ b → tests.Same (slot_at xs i).rank 0 → slot_from_log log i (first_entry (of_slot i) log) ≡ slot_at xs i
      go true b (tests.same e p) = free_slot_lem i (w.slots i (ltb-true i n b)) p (first_entry (of_slot i) log) (finds? (of_slot i) log)
      go true b (tests.other e p) = used_slot i (ltb-true i n b) (omega arith) (first_entry (of_slot i) log) (finds? (of_slot i) log)
      go false b s = let (f, z) = w.rest i (ltb-false i n b) l in free_slot_lem i f z (first_entry (of_slot i) log) (finds? (of_slot i) log)

  pub read_off : each (slot_in_log log) most_slots ≡ xs
  read_off =
      ext_get_or past (each (slot_in_log log) most_slots) xs (each_long (slot_in_log log) most_slots ∙ sym w.array)
      (λ i m. let b : i < most_slots = omega (arith, each_long (slot_in_log log) most_slots) in each_at (slot_in_log log) past most_slots i b ∙ slot_read i b)
