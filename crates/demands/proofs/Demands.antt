-- The three demands hold, for each number of slots, and what was asked of order and repetition.
use Prim.Native.Nat.{ℕ}
use Rattle.sequences.specs.Runs.{Slots}
use Rattle.demands.specs.Demands.{Demand1, Demand2, Demand3, OrderAndRepetition}
use Rattle.sequences.proofs.Calls as calls
use Rattle.sequences.proofs.Wake as wake
use Rattle.sequences.proofs.Crowding as crowding
use Rattle.shuffles.proofs.Others as others
use Rattle.demands.proofs.RefusedInPlace as inplace
use Rattle.demands.proofs.Refusing as refusing
use Rattle.trips.proofs.Orders as orders
use Rattle.trips.proofs.Twice as twice
use Rattle.trips.proofs.RoundTrips as trips
use Rattle.trips.proofs.Checked as checked
use Rattle.sequences.proofs.Silence as silence
use Rattle.sequences.proofs.SplitTaken as split
use Rattle.sequences.proofs.Delivery as delivery
use Rattle.trips.proofs.Reports as reports
use Rattle.sequences.proofs.Reachable as reachable
use Rattle.sequences.proofs.NeverMade as never
use Rattle.shuffles.proofs.Shuffled as shuffled
use Rattle.trips.proofs.Ussd as ussd

pub demand_1 : Demand1
demand_1 = record {
  taking = refusing.taking_refused;
  beat = refusing.beat_refused_lem;
  parsing = refusing.parsing_refused;
  building = refusing.building_refused;
  checksum_octets_lem = refusing.checksum_refused;
  writing_user_data = refusing.writing_refused;
  writing_a_page = refusing.page_refused;
  writing_a_report = refusing.report_refused;
  reading_ussd = refusing.ussd_reading_refused;
  writing_ussd_lem = refusing.ussd_writing_refused;
  ussd_checksum_octets_lem = refusing.ussd_checksum_refused;
  announcing = refusing.announcing_refused;
  judging_a_counter = refusing.judging_refused;
  sending_a_command = refusing.sending_refused;
  response_that_came = refusing.closing_refused;
  salvaging_a_capture = refusing.salvaging_refused;
  unfit = refusing.unfit_refused;
  making_a_record = refusing.making_refused;
  on_a_state = inplace.state_refused;
  on_a_log = inplace.log_refused;
  acceptance = reachable.acceptance;
  refused_if_never_made = never.refused_if_never_made;
}

pub demand_2 : Demand2
demand_2 = record {
  build_then_read = trips.build_then_read;
  command_tells = trips.command_tells;
  read_then_build = trips.read_then_build;
  answers_build = trips.answers_build;
  read_then_build_calls = trips.read_then_build_calls;
  fixed_lengths = trips.fixed_lengths;
  checksum_covers = trips.checksum_covers;
  parses_or_refuses = trips.parses_or_refuses;
  parsed_is_formed = trips.parsed_is_formed;
  check_bits = checked.check_bits;
  still_carried = checked.still_carried;
  builds_or_refuses = trips.builds_or_refuses;
  split_messages = trips.split_messages;
  split_pages = trips.split_pages;
  messages_arrive = split.messages_arrive;
  pages_arrive = split.pages_arrive;
  messages_delivered = delivery.messages_delivered;
  pages_delivered = delivery.pages_delivered;
  messages_written = delivery.messages_written;
  pages_written = delivery.pages_written;
  order_free = orders.order_free;
  read_as_without = twice.read_as_without;
  taken_as_without = twice.taken_as_without;
  last_replaces = twice.last_replaces;
  none_lost = reports.none_lost;
  report_refusals = reports.report_refusals;
  none_lost_either = reports.none_lost_either;
  editions_alike = reports.editions_alike;
  either_accepted = reports.either_accepted;
  ussd_messages = ussd.ussd_messages;
}

pub demand_3 : (n : ℕ) → Slots n → Demand3 n
demand_3 n good = record {
  wake_window = wake.wake_window_of_all n good;
  packet_comes = wake.packet_comes_of_all n good;
  wake_window_between = wake.wake_window_least n good;
  packet_comes_between = wake.packet_comes_least n good;
  wake_window_sharp = wake.wake_window n good;
  packet_comes_sharp = wake.packet_comes n good;
  always_formed = λ k. calls.always_formed n good k (wake.admits k);
  no_key_twice = λ k. calls.no_key_twice n good k (wake.admits k);
  never_displaced = crowding.never_displaced n good;
  beating = silence.beating n;
  silent_given_up = silence.silent_given_up n good;
  others_do_not_show = others.others_do_not_show n good;
  others_do_not_show_sharp = others.others_do_not_show_sharp n good;
}

pub order_and_repetition : (n : ℕ) → OrderAndRepetition n
order_and_repetition n = record { kept_then_held = shuffled.kept_then_held n; either_order = shuffled.either_order n; any_order = shuffled.any_order n }
