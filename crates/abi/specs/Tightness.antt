-- Each call for C with its rule: two outcomes that its promise allows are equal, for all inputs. An outcome is the number returned, the lent numbers, and
-- each lent buffer, the state included, as it is afterwards.
use Rattle.std.specs.Prelude.{ℕ, ◌≡◌, not, ◌&&◌, List, eqb}
use Rattle.types.specs.declared.Kind.TheVariants.{Command, Response}
use Rattle.packet.specs.Packets.{plain, ciphered, well_formed, ciphered_command, parsing, built, checksummed}
use Rattle.arrival.specs.Message.{read_message}
use Rattle.arrival.specs.Page.{read_page}
use Rattle.slots.specs.Slots.{default_slots}
use Rattle.formed.specs.Formed.{record_formed}
use Rattle.layout.specs.Layout.{kind_in, state_record, known, making_state}
use Rattle.sound.specs.Card.{beat_in}
use Rattle.series.specs.Calls as input
use Rattle.card.specs.Card.{take_in}
use Rattle.split.specs.Splitting.{write_message, write_page}
use Rattle.ussd.specs.Ussd.{read_ussd, written_ussd, ussd_checksummed}
use Rattle.report.specs.Reporting.{write_report, response_announces}
use Rattle.capture.specs.Captures as capture
use Rattle.heard.specs.Given.{version_number, octet_in, tar_given, clear_given, response_given, command_given}
use Rattle.heard.specs.Heard.{heard_test, heard_made, heard_beaten, heard_state, heard_written, heard_piece, heard_brought, heard_parsed, heard_places, heard_report, heard_announcing, heard_run, heard_captured}

-- whatever comes out is this
abbrev pub Fixed : {Outcome : Type 0} → Outcome → Type 0
Fixed {Outcome} rule = (r₁ r₂ : Outcome) → r₁ ≡ rule → r₂ ≡ rule → r₁ ≡ r₂

pub record CPromises : Type 0 where
  pub skm_version : Fixed (version_number 0 10 0)
  -- states
  pub skm_fresh : (s : List ℕ) (kind : ℕ) → Fixed (heard_made (making_state s default_slots (kind_in kind)))
  pub skm_fresh_with : (s : List ℕ) (kind slots : ℕ) → Fixed (heard_made (making_state s (octet_in slots) (kind_in kind)))
  pub skm_state_formed : (s : List ℕ) → Fixed (heard_test 1 (known s && record_formed (state_record s).count (state_record s)))
  pub skm_take_message : (s : List ℕ) (sender : ℕ) (ud cells out : List ℕ) → Fixed (heard_state (take_in s cells out (input.message sender ud)))
  pub skm_take_page : (s page cells out : List ℕ) → Fixed (heard_state (take_in s cells out (input.page page)))
  pub skm_beat : (s : List ℕ) (limit : ℕ) → Fixed (heard_beaten (beat_in s (octet_in limit)))
  -- packets
  pub skm_packet_formed : (kind : ℕ) (p : List ℕ) → Fixed (heard_test 9 (well_formed (kind_in kind) p))
  pub skm_parse_command : (p : List ℕ) → Fixed (heard_parsed Command (parsing Command (ciphered_command p) p))
  pub skm_parse_response : (p : List ℕ) (c : ℕ) → Fixed (heard_parsed Response (parsing Response (not (eqb c 0)) p))
  pub skm_show_command : (p : List ℕ) → Fixed (heard_places Command (ciphered_command p) p)
  pub skm_show_response : (p : List ℕ) (c : ℕ) → Fixed (heard_places Response (not (eqb c 0)) p)
  pub skm_build_command : (fields check secured out : List ℕ) → Fixed (heard_written (built Command (plain (command_given fields) check secured) out))
  pub skm_build_ciphered_command : (clear : List ℕ) (header : ℕ) (opaque out : List ℕ)
      → Fixed (heard_written (built Command (ciphered (clear_given clear) header opaque) out))
  pub skm_build_response : (fields check secured out : List ℕ) → Fixed (heard_written (built Response (plain (response_given fields) check secured) out))
  pub skm_build_ciphered_response : (tar : List ℕ) (header : ℕ) (opaque out : List ℕ)
      → Fixed (heard_written (built Response (ciphered (tar_given tar) header opaque) out))
  pub skm_command_checksum : (p out : List ℕ) → Fixed (heard_written (checksummed Command (ciphered_command p) p out))
  pub skm_response_checksum : (p : List ℕ) (c : ℕ) (out : List ℕ) → Fixed (heard_written (checksummed Response (not (eqb c 0)) p out))
  -- arrivals
  pub skm_read_message : (kind sender : ℕ) (ud : List ℕ) → Fixed (heard_brought (read_message (kind_in kind) sender ud))
  pub skm_read_page : (kind : ℕ) (page : List ℕ) → Fixed (heard_brought (read_page (kind_in kind) page))
  -- splitting
  pub skm_write_message : (kind width reference number : ℕ) (p out : List ℕ)
      → Fixed (heard_piece (write_message (kind_in kind) width reference p number out))
  pub skm_write_page : (serial identifier dcs number : ℕ) (p out : List ℕ) → Fixed (heard_piece (write_page serial identifier dcs p number out))
  -- USSD strings
  pub skm_read_ussd : (pfi dcs : ℕ) (s : List ℕ) → Fixed (heard_parsed Command (read_ussd pfi dcs s))
  pub skm_write_ussd : (pfi : ℕ) (fields check secured out : List ℕ) → Fixed (heard_written (written_ussd pfi (plain (command_given fields) check secured) out))
  pub skm_write_ciphered_ussd : (pfi : ℕ) (clear : List ℕ) (header : ℕ) (opaque out : List ℕ)
      → Fixed (heard_written (written_ussd pfi (ciphered (clear_given clear) header opaque) out))
  pub skm_ussd_checksum : (um out : List ℕ) → Fixed (heard_written (ussd_checksummed um out))
  -- reporting
  pub skm_write_report : (spi capacity edition : ℕ) (p out : List ℕ) → Fixed (heard_report (write_report edition spi capacity p out))
  pub skm_response_announces : (p : List ℕ) → Fixed (heard_announcing (response_announces p))
  -- captures
  pub skm_salvage : (file output : List ℕ) → Fixed (heard_written (capture.salvaging file output))
  pub skm_next_skipped : (file : List ℕ) (from : ℕ) → Fixed (heard_run (capture.next_run file from))
  pub skm_read_captured : (o : List ℕ) → Fixed (heard_captured (capture.record_in o))
