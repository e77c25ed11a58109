-- The two engines are equal, call by call: while a log, and a record with cells, are the same, each call says the same through both, and leaves them the same.
use Prim.Native.Nat.{ℕ}
use Rattle.std.specs.Prelude.{◌≡◌, refl, Bool, false, List, length, drop}
use Rattle.std.proofs.Common.{sym, ap, ◌∙◌}
use Rattle.std.proofs.Math.Path.{subst}
use borrow.Author.Tests.{eq-eqb}
use Rattle.octets.specs.Octets.{Octets}
use Rattle.types.specs.Refusals as reading
use Rattle.types.specs.declared.Kind.{Kind}
use Rattle.types.specs.declared.Key.{Key}
use Rattle.types.specs.declared.Record.{Record}
use Rattle.packet.specs.Packets.{most_octets}
use Rattle.arrival.specs.Arrivals.{Brought, single, part}
use Rattle.arrival.specs.Laws.{Admitted}
use Rattle.joined.specs.Fronts.{packet_in}
use Rattle.formed.specs.Laws.{Formed, formed_told}
use Rattle.cells.specs.Cells.{cells_size}
use Rattle.series.specs.Taking as first
use Rattle.series.specs.KeepLaws.{Sound}
use Rattle.series.proofs.KeepsFormed.{taken_sound, taken_kind}
use Rattle.series.specs.Calls as first-calls
use Rattle.series.specs.Calls.{Input, octets_of, read}
use Rattle.series.specs.CallLaws.{is_page, admits, taking_any}
use Rattle.plain.specs.Entries.{Entry, LogState}
use Rattle.plain.specs.Engine.{AfterLog, leaves, log_taken, log_take_input}
use Rattle.plain.specs.Same.{SameLog, Equal}
use Rattle.plain.proofs.Takes.{handed, part_equal}
use Rattle.plain.specs.Equal.{Together, EqualCall, plain_comes, together_formed}

-- ---- one call
taken_equal : (n : ℕ) (s : first.State) → Sound n s.rec s.cells → (log : List Entry) → SameLog n s.rec.slots s.cells log → (paged : Bool) (o : List ℕ) (b : reading.Outcome Brought)
    → ((key : Key) (total number start : ℕ) → b ≡ reading.gives (part key total number start) → Admitted s.rec.kind key total number (drop start o))
    → Equal n (log_taken n s.rec.kind log s.output paged o b) (first.taken n s paged o b)
taken_equal n s w log h paged o (reading.refused m) adm = record { answer = refl; output = refl; same = h }
taken_equal n s w log h paged o (reading.gives (single start)) adm = handed n s s.rec log (packet_in s.rec.kind paged 1 (drop start o)) h
taken_equal n s w log h paged o (reading.gives (part key total number start)) adm = part_equal n s w log h key total number (drop start o) (adm key total number start refl)

module _ (s : LogState) (r : Record) (cells : List ℕ) (t : Together s r cells) where
  abbrev n : ℕ
  n = s.slots

  w : Formed s.slots r.kind r.slots
  w = t.sound.formed

  module _ (output : List ℕ) (long : length output ≡ most_octets) (i : Input) (bytes : Octets (octets_of i)) where
    abbrev fs : first.State
    fs = first.state r cells output

    fit : first.unfit n fs ≡ false
    fit = rw (eq-eqb (length cells) (cells_size n) t.sound.size, eq-eqb (length output) most_octets long, eq-eqb r.count n t.sound.number, formed_told n r.kind r.slots w)

    admitted : (key : Key) (total number start : ℕ) → read r.kind i ≡ reading.gives (part key total number start) → Admitted r.kind key total number (drop start (octets_of i))
    admitted = admits r.kind i bytes

    one_side : first-calls.take_input n fs i ≡ first.taken n fs (is_page i) (octets_of i) (read r.kind i)
    one_side = taking_any n fs i ∙ rw fit

    other_side : log_take_input s output i ≡ leaves s (log_taken n r.kind s.log output (is_page i) (octets_of i) (read r.kind i))
    other_side =
        plain_comes s output i ∙ rw (together_formed s r cells t, eq-eqb (length output) most_octets long)
        (ap (λ (k : Kind). leaves s (log_taken n k s.log output (is_page i) (octets_of i) (read k i))) (sym t.kind))

    both_equal : EqualCall (leaves s (log_taken n r.kind s.log output (is_page i) (octets_of i) (read r.kind i))) (first.taken n fs (is_page i) (octets_of i) (read r.kind i))
    both_equal =
        let e = taken_equal n fs t.sound s.log t.same (is_page i) (octets_of i) (read r.kind i) admitted in
        record {
          answer = e.answer;
          output = e.output;
          together = record {
            kind = taken_kind n fs (is_page i) (octets_of i) (read r.kind i) ∙ t.kind;
            sound = taken_sound n fs t.sound (is_page i) (octets_of i) (read r.kind i) admitted;
            lent = t.lent;
            same = e.same;
          };
        }

    pub call_equal : EqualCall (log_take_input s output i) (first-calls.take_input n fs i)
    call_equal =
        subst (λ (p : AfterLog). EqualCall p (first-calls.take_input n fs i)) (sym other_side)
        (subst (λ (a : first.After). EqualCall (leaves s (log_taken n r.kind s.log output (is_page i) (octets_of i) (read r.kind i))) a) (sym one_side) both_equal)
