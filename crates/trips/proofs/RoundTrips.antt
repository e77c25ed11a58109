-- Demand 2: the round trips of packets, by the laws of `packet`, and of splitting, by those of `split`.
use Prim.Native.Nat.{ℕ}
use mathlib.Core.Path.{◌≡◌, refl, sym, ap, ◌∙◌}
use mathlib.Core.Bool.{Bool}
use mathlib.Core.List.{List}
use lib.ListN.{length}
use borrow.Author.Tests.{lt-ltb, le-ltb, eq-eqb}
use native.Mathlib.Omega.{arith}
use Rattle.types.specs.declared.Kind.{Kind}
use Rattle.types.specs.declared.Kind.TheVariants.{Command, Response}
use Rattle.types.specs.declared.CommandBody.{CommandBody}
use Rattle.types.specs.declared.CommandBody.TheVariants as command
use Rattle.types.specs.declared.ResponseBody.{ResponseBody}
use Rattle.types.specs.declared.ResponseBody.TheVariants as response
use Rattle.types.specs.Refusals.{gives, writes}
use Rattle.packet.specs.Packets.{most_octets, Fields, plain, ciphered, fields_of, Parsed, measured, readable, parsing, shown, secured_of, check_of, opaque_of, shown_data, shown_check, shown_opaque, packet_of, building, built, ciphered_command}
use Rattle.packet.specs.Told.{command_fields, response_fields}
use Rattle.packet.specs.Laws.{readable_formed, built_cipher}
use Rattle.packet.proofs.PacketLaws.{built_formed, built_checksum, built_parsed, built_data, built_check, built_opaque, read_built}
use Rattle.packet.specs.Judging.{readable_gives}
use Rattle.split.specs.Laws.{pages_join}
use Rattle.split.proofs.PartLaws.{parts_join}
use Rattle.split.specs.ReadBack.{own_octets, read_single_page, read_page_lem, content_octets}
use Rattle.split.proofs.PartsReadBack.{read_single, single_octets, read_part}
use Rattle.trips.specs.RoundTrips.{BuildThenRead, CommandTells, Said, ReadThenBuild, fields_from, AnswersBuild, ReadThenBuildCalls, FixedLengths, ChecksumCovers, ParsesOrRefuses, ParsedIsFormed, BuildsOrRefuses, SplitMessages, SplitPages}

pub build_then_read : BuildThenRead
build_then_read k x p right e = record {
  formed = (built_formed k x p e right).0;
  size = (built_formed k x p e right).1;
  fields = built_parsed k x p e right;
  secured = built_data k x p e right;
  check = built_check k x p e right;
  opaque = built_opaque k x p e right;
}

pub command_tells : CommandTells
command_tells x p e = built_cipher x p e

pub read_then_build : ReadThenBuild
read_then_build k c p formed size checked bytes s = read_built k c p formed size checked bytes (told k s)
  where
    told : (k : Kind) → Said k c p → k ≡ Command → c ≡ ciphered_command p
    told Command s e = s
    told Response s e = let z : ◌≡◌ {A = ℕ} 0 1 = cc in absurd (omega arith)

pub parses_or_refuses : (k : Kind) (c : Bool) (p : List ℕ) → ParsesOrRefuses k c p
unfolding parsing
parses_or_refuses k c p = record {
  nine = λ w. rw w;
  twelve = λ w l. rw (w, lt-ltb most_octets (length p) l);
  fifteen = λ w l a. rw (w, le-ltb most_octets (length p) l, a);
  given = λ w l a. rw (w, le-ltb most_octets (length p) l, a);
}

pub parsed_is_formed : ParsedIsFormed
unfolding parsing
parsed_is_formed k c p x e = let r = (readable_gives k c p (measured (fields_of k c p)) x (sym e)).0 in (r.formed, r.size, r.checked)

-- what parsing answered and showing gave are the packet's fields
pub answers_build : AnswersBuild
unfolding parsing shown_data shown_check shown_opaque
answers_build k c p x bytes s e =
    let (formed, size, checked) = parsed_is_formed k c p x e in
    let y : x ≡ measured (fields_of k c p) = (readable_gives k c p (measured (fields_of k c p)) x (sym e)).1 in
    let seen : (o : List ℕ) → shown (readable k c p (gives o)) ≡ o = λ o. ap shown (readable_formed k c p (gives o) formed size checked) in
    ap (building k) (rw (y, seen (check_of (fields_of k c p)), seen (secured_of (fields_of k c p)), seen (opaque_of (fields_of k c p))) (same (fields_of k c p)))
    ∙ read_then_build k c p formed size checked bytes s
  where
    same : (y : Fields) → fields_from (measured y) (check_of y) (secured_of y) (opaque_of y) ≡ y
    same (plain f c d) = refl
    same (ciphered f h o) = refl

into_buffer : (k : Kind) (x : Fields) (p buffer : List ℕ) → length buffer ≡ most_octets → building k x ≡ gives p → built k x buffer ≡ writes (gives p) buffer
unfolding built
into_buffer k x p buffer size e = rw (eq-eqb (length buffer) most_octets size, e)

pub read_then_build_calls : ReadThenBuildCalls
read_then_build_calls p buffer bytes size = record {
  build_command = λ x b e i. into_buffer Command _ p buffer size (of_command (command_fields x.clear (command.Plain b)) (sym e ∙ ap (λ (y : CommandBody). gives (command_fields x.clear y)) i));
  build_ciphered_command = λ x b e i. into_buffer Command _ p buffer size (of_command (command_fields x.clear (command.Ciphered b)) (sym e ∙ ap (λ (y : CommandBody). gives (command_fields x.clear y)) i));
  build_response = λ x b c e i. into_buffer Response _ p buffer size (of_response c (response_fields x.tar (response.Plain b)) (sym e ∙ ap (λ (y : ResponseBody). gives (response_fields x.tar y)) i));
  build_ciphered_response = λ x b c e i. into_buffer Response _ p buffer size (of_response c (response_fields x.tar (response.Ciphered b)) (sym e ∙ ap (λ (y : ResponseBody). gives (response_fields x.tar y)) i));
}
  where
    of_command : (x : Parsed) → parsing Command (ciphered_command p) p ≡ gives x
        → building Command (fields_from x (shown_check Command (ciphered_command p) p) (shown_data Command (ciphered_command p) p) (shown_opaque Command (ciphered_command p) p)) ≡ gives p
    of_command x = answers_build Command (ciphered_command p) p x bytes refl

    of_response : (c : Bool) (x : Parsed) → parsing Response c p ≡ gives x
        → building Response (fields_from x (shown_check Response c p) (shown_data Response c p) (shown_opaque Response c p)) ≡ gives p
    of_response c x = answers_build Response c p x bytes tt

pub fixed_lengths : FixedLengths
fixed_lengths = record {
  command_fixed_lem = λ x n pcntr. refl;
  command_clear = λ x. refl;
  response_fixed_lem = λ t n pcntr status. refl;
  response_clear = λ t. refl;
}

pub checksum_covers : ChecksumCovers
checksum_covers k fixed check secured p = built_checksum k fixed check secured p

pub builds_or_refuses : (k : Kind) (x : Fields) → BuildsOrRefuses k x
unfolding building
builds_or_refuses k x = record {
  ten = λ a. rw a;
  eleven = λ a m. rw (a, m);
  fifteen = λ a m u. rw (a, m, u);
  twelve = λ a m u l. rw (a, m, u, lt-ltb most_octets (length (packet_of k x)) l);
  given = λ a m u l. rw (a, m, u, le-ltb most_octets (length (packet_of k x)) l);
}

pub split_messages : SplitMessages
split_messages k width reference p sender fits most = record {
  alone = λ number. read_single k width reference p number sender;
  whole = λ number. single_octets k width reference p number;
  each = λ number several low high. read_part k width reference p number sender fits most several low high;
  octets = λ number. own_octets k width reference p number;
  joins = parts_join width p;
}

pub split_pages : SplitPages
split_pages serial identifier dcs p inside most = record {
  alone = λ number low high. read_single_page serial identifier dcs p number inside most low high;
  each = λ number several low high. read_page_lem serial identifier dcs p number inside most low high several;
  octets = λ number. content_octets serial identifier dcs p number;
  joins = pages_join p;
}
