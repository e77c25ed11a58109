-- What the proofs of the calls search: one law for each return, over plain variables.
use Rattle.std.specs.declared.result.Result.{Result}
use Rattle.std.specs.declared.result.Result.TheVariants.{Ok, Err}
use Rattle.types.specs.declared.Refusal.{Refusal}
use Prim.Native.Nat.{ℕ}
use mathlib.Core.Path.{◌≡◌, sym, ap}
use mathlib.Core.Bool.{Bool, true, false, not, ◌||◌}
use mathlib.Core.List.{List}
use native.Mathlib.Omega.{arith}
use lib.ListN.{length, get_or}
use lib.Dec.{eqb}
use mir.Syntax.{w8}
use mir.Val.{Fits}
use borrow.Author.Rules.{rules}
use borrow.Author.Tests.{eqb-true}
use Rattle.octets.specs.Tests.{neither}
use Rattle.types.specs.Refusals.{Outcome}
use Rattle.types.specs.declared.Kind.{Kind}
use Rattle.types.specs.declared.Arrival.{Arrival}
use Rattle.types.specs.declared.Arrival.TheVariants as arrival
use Rattle.packet.specs.Packets.{most_octets}
use Rattle.arrival.specs.Arrivals.{Brought, told_arrival}
use Rattle.arrival.specs.Message.{read_message}
use Rattle.arrival.specs.Page.{read_page}
use Rattle.arrival.specs.Laws.{page_part, page_single}
use Rattle.arrival.proofs.MessageLaws.{message_part, message_single}
use Rattle.series.specs.Taking.{Answer, refused_by}
use Rattle.series.specs.Deciding.{Fitting}
use Rattle.types.specs.declared.Log.{Log}
use Rattle.plain.specs.Entries.{entries_from, state_in}
use Rattle.plain.specs.Log.{result_of}
use Rattle.plain.specs.Engine.{state_formed, AfterLog, after_log, leaves, log_taken, log_take_message, log_take_page}
use Rattle.copies.specs.Copying.{SoundLog}
use Rattle.copies.specs.FitLaws.{so, formed_sound}
use Rattle.second.specs.Acting.{Stays, taken_if_fit, only_reads}
use Rattle.second.proofs.TakeLaws.{stays_same}

-- ---- taking
module _ (l : Log) (lent : List ℕ) (b : Bool) (told : b ≡ state_formed (state_in l lent)) where
  module _ (output : List ℕ) where
    pub fit_output : not b || not (eqb (length output) most_octets) ≡ false → length output ≡ most_octets
    fit_output fit = eqb-true (length output) most_octets (so (eqb (length output) most_octets) (neither (not b) (not (eqb (length output) most_octets)) fit).1)

    pub fit_sound : not b || not (eqb (length output) most_octets) ≡ false → SoundLog l.slots l.kind lent l.count
    fit_sound fit = formed_sound l lent b told (so b (neither (not b) (not (eqb (length output) most_octets)) fit).0)

    module _ (paged : Bool) (o : List ℕ) (z : Result Arrival Refusal) where
      pub call_unfit : not b || not (eqb (length output) most_octets) ≡ true
          → after_log (refused_by 1) (state_in l lent) output ≡ taken_if_fit (state_in l lent) output paged o (told_arrival z)
      call_unfit e = rw (← told, e)

      pub call_done : (a : Answer) (c : ℕ) (new out : List ℕ) → not b || not (eqb (length output) most_octets) ≡ false → length new ≡ length lent
          → result_of a (entries_from new 0 c) out ≡ log_taken l.slots l.kind (entries_from lent 0 l.count) output paged o (told_arrival z)
          → after_log a (state_in (record { kind = l.kind; slots = l.slots; count = c }) new) out ≡ taken_if_fit (state_in l lent) output paged o (told_arrival z)
      call_done a c new out fit n h = rw (n, ← told, fit) (ap (leaves (state_in l lent)) h)

-- what the octets of the log come to
pub reads_stay : (z : Result Arrival Refusal) (o : Outcome Brought) (a : Answer) (old new : List ℕ) → told_arrival z ≡ o → Stays (only_reads (told_arrival z) a) old new
    → only_reads o a ≡ true → new ≡ old
reads_stay z o a old new e s t = s.same (rw e t)

module _ (l : Log) (lent output : List ℕ) (z : Result Arrival Refusal) (x : AfterLog) where
  pub message_called : (sender : ℕ) (ud : List ℕ) → told_arrival z ≡ read_message l.kind sender ud
      → x ≡ taken_if_fit (state_in l lent) output false ud (told_arrival z) → x ≡ log_take_message (state_in l lent) output sender ud
  unfolding log_take_message
  message_called sender ud e h = rw (← e) h

  pub page_called : (page : List ℕ) → told_arrival z ≡ read_page l.kind page
      → x ≡ taken_if_fit (state_in l lent) output true page (told_arrival z) → x ≡ log_take_page (state_in l lent) output page
  unfolding log_take_page
  page_called page e h = rw (← e) h

-- what reading gives fits
pub message_fits : (k : Kind) (sender : ℕ) (ud : List ℕ) (z : Result Arrival Refusal) → told_arrival z ≡ read_message k sender ud → ((i : ℕ) → Fits w8 (get_or ud i 0)) → Fitting k ud z
message_fits k sender ud (Ok (arrival.Single start)) e b = omega (arith, message_single k sender ud start (sym e))
message_fits k sender ud (Ok (arrival.Part key total number start)) e b = message_part k sender ud key total number start (sym e) (λ i. omega (arith, b i))
message_fits k sender ud (Err q) e b = tt

pub page_fits : (k : Kind) (page : List ℕ) (z : Result Arrival Refusal) → told_arrival z ≡ read_page k page → Fitting k page z
page_fits k page (Ok (arrival.Single start)) e = omega (arith, page_single k page start (sym e))
page_fits k page (Ok (arrival.Part key total number start)) e = page_part k page key total number start (sym e)
page_fits k page (Err q) e = tt

pub ruleset call_steps = (
  rules,
  fit_output,
  fit_sound,
  call_unfit,
  call_done,
  stays_same,
)

pub ruleset read_steps = (
  rules,
  reads_stay,
  message_called,
  page_called,
  message_fits,
  page_fits,
)
