-- Each promise for C is tight: it says what the outcome is.
use mathlib.Core.Path.{sym, ◌∙◌}
use Rattle.abi.specs.Tightness.{Fixed, CPromises}

fixed : {Outcome : Type 0} (rule : Outcome) → Fixed rule
fixed rule r₁ r₂ e₁ e₂ = e₁ ∙ sym e₂

pub c_promises : CPromises
c_promises =
    record {
      skm_version = fixed _;
      skm_fresh = λ s kind. fixed _;
      skm_fresh_with = λ s kind slots. fixed _;
      skm_state_formed = λ s. fixed _;
      skm_take_message = λ s sender ud cells out. fixed _;
      skm_take_page = λ s page cells out. fixed _;
      skm_beat = λ s limit. fixed _;
      skm_packet_formed = λ kind p. fixed _;
      skm_parse_command = λ p. fixed _;
      skm_parse_response = λ p c. fixed _;
      skm_show_command = λ p. fixed _;
      skm_show_response = λ p c. fixed _;
      skm_build_command = λ fields check secured out. fixed _;
      skm_build_ciphered_command = λ clear header opaque out. fixed _;
      skm_build_response = λ fields check secured out. fixed _;
      skm_build_ciphered_response = λ tar header opaque out. fixed _;
      skm_command_checksum = λ p out. fixed _;
      skm_response_checksum = λ p c out. fixed _;
      skm_read_message = λ kind sender ud. fixed _;
      skm_read_page = λ kind page. fixed _;
      skm_write_message = λ kind width reference number p out. fixed _;
      skm_write_page = λ serial identifier dcs number p out. fixed _;
      skm_read_ussd = λ pfi dcs s. fixed _;
      skm_write_ussd = λ pfi fields check secured out. fixed _;
      skm_write_ciphered_ussd = λ pfi clear header opaque out. fixed _;
      skm_ussd_checksum = λ um out. fixed _;
      skm_write_report = λ spi capacity edition p out. fixed _;
      skm_response_announces = λ p. fixed _;
      skm_salvage = λ file output. fixed _;
      skm_next_skipped = λ file from. fixed _;
      skm_read_captured = λ o. fixed _;
    }
