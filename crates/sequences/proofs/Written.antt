-- What splitting writes of a packet of octets are octets: the header's are small, or halves of a number below 65,536, and the rest are the
-- packet's own.
use Prim.Native.Nat.{ℕ, zero, suc, ◌-◌, ◌*◌, ◌/◌, ◌%◌, ◌≤◌, ◌<◌}
use mathlib.Core.Path.{◌≡◌, refl}
use mathlib.Core.Bool.{true, false, ◌&&◌}
use mathlib.Core.List.{List, [], ◌∷◌, ◌++◌}
use native.Mathlib.Omega.{arith}
use lib.ListN.{length, take, drop, replicate, length-append}
use lib.Dec.{eqb, ltb, leb}
use borrow.Author.Tests.{ltb-true, leb-true}
use Rattle.octets.specs.Octets.{Octets}
use Rattle.octets.specs.Tests.{clash, both, by_test}
use Rattle.types.specs.declared.Kind.{Kind}
use Rattle.types.specs.declared.Kind.TheVariants.{Command, Response}
use Rattle.arrival.specs.Message.{most_user_data}
use Rattle.arrival.specs.Page.{page_content, identifier_in_range}
use Rattle.arrival.specs.Keys.{room, reference_fits}
use Rattle.split.specs.Splitting.{most_single, parts, part_from, part_octets, identifier_element, concatenation_element, elements_of, user_data, most_split, most_pages, pages, content_of, parameter, page_written}
use Rattle.split.specs.Laws.{most_pages_lem}
use Rattle.split.proofs.PartLaws.{most_parts_lem, user_data_fits}

-- ---- octets put together
pub data Small : List ℕ → Type 0 where
  done : Small []
  and : (x : ℕ) {l : List ℕ} → x < 256 → Small l → Small (x ∷ l)

pub small_octets : {l : List ℕ} → Small l → Octets l
small_octets done i = omega arith
small_octets (and x a s) zero = a
small_octets (and x a s) (suc i) = small_octets s i

pub octets_small : (l : List ℕ) → Octets l → Small l
octets_small [] o = done
octets_small (x ∷ l) o = and x (o 0) (octets_small l (λ i. o (suc i)))

pub append_small : {a b : List ℕ} → Small a → Small b → Small (a ++ b)
append_small done t = t
append_small (and x a s) t = and x a (append_small s t)

pub take_small : (m : ℕ) {l : List ℕ} → Small l → Small (take m l)
take_small zero s = done
take_small (suc m) done = done
take_small (suc m) (and x a s) = and x a (take_small m s)

pub drop_small : (m : ℕ) {l : List ℕ} → Small l → Small (drop m l)
drop_small zero s = s
drop_small (suc m) done = done
drop_small (suc m) (and x a s) = drop_small m s

pub zero_small : (m : ℕ) → Small (replicate m 0)
zero_small zero = done
zero_small (suc m) = and 0 (omega arith) (zero_small m)

-- ---- user data
module _ (width reference : ℕ) (fits : reference_fits width reference ≡ true) where
  pub below_wide : reference < 65536
  below_wide =
      by_test (eqb width 8 && ltb reference 256) (λ e. let l = ltb-true reference 256 (both (eqb width 8) (ltb reference 256) e).1 in omega arith)
      (λ e. ltb-true reference 65536 (both (eqb width 16) (ltb reference 65536) (rw e at fits)).1)

  pub below_narrow : eqb width 16 ≡ false → reference < 256
  below_narrow n =
      by_test (eqb width 8 && ltb reference 256) (λ e. ltb-true reference 256 (both (eqb width 8) (ltb reference 256) e).1)
      (λ e. absurd (clash false (rw (e, n) at fits) refl))

  module _ (total number : ℕ) (few : total < 256) (low : number < 256) where
    end : Small (total ∷ number ∷ [])
    end = and total few (and number low done)

    concatenation_small : Small (concatenation_element width reference total number)
    concatenation_small =
        by_test (eqb width 16)
        (λ e. let l = below_wide in rw e (and 0x08 (omega arith) (and 0x04 (omega arith) (and (reference / 256) (omega arith) (and (reference % 256) (omega arith) end)))))
        (λ e. rw e (and 0x00 (omega arith) (and 0x03 (omega arith) (and reference (below_narrow e) end))))

    identifier_small : (k : Kind) → Small (identifier_element k)
    identifier_small Command = and 0x70 (omega arith) (and 0x00 (omega arith) done)
    identifier_small Response = and 0x71 (omega arith) (and 0x00 (omega arith) done)

    elements_small : (k : Kind) → Small (elements_of k width reference total number)
    elements_small k =
        by_test (eqb total 1) (λ e. rw e (identifier_small k))
        (λ e. by_test (eqb number 1) (λ f. rw (e, f) (append_small concatenation_small (identifier_small k))) (λ f. rw (e, f) concatenation_small))

part_small : (width : ℕ) (p : List ℕ) (number : ℕ) → Octets p → Small (part_octets width p number)
unfolding part_octets
part_small width p number o =
    by_test (leb (length p) most_single) (λ e. rw e (octets_small p o))
    (λ e. rw e (take_small (room width number) (drop_small (part_from width number) (octets_small p o))))

pub user_data_octets : (k : Kind) (width reference : ℕ) (p : List ℕ) (number : ℕ) → reference_fits width reference ≡ true → length p ≤ most_split width
    → number ≤ parts width (length p) → Octets p → Octets (user_data k width reference p number)
unfolding user_data
user_data_octets k width reference p number fits most high o =
    let sixteen = most_parts_lem width (length p) most in
    let es : List ℕ = elements_of k width reference (parts width (length p)) number in
    let size : length ((length es ∷ es) ++ part_octets width p number) ≤ most_user_data = user_data_fits k width reference p number in
    small_octets (append_small
    (and (length es) (omega (arith, size, length-append (length es ∷ es) (part_octets width p number)))
    (elements_small width reference fits (parts width (length p)) number (omega arith) (omega arith) k))
    (part_small width p number o))

-- ---- pages
pub page_octets_lem : (serial identifier dcs : ℕ) (p : List ℕ) (number : ℕ) → serial < 65536 → identifier_in_range identifier ≡ true → dcs < 256 → length p ≤ most_pages
    → number ≤ pages (length p) → Octets p → Octets (page_written serial identifier dcs p number)
unfolding page_written content_of
page_octets_lem serial identifier dcs p number a inside d most high o =
    let i = leb-true identifier 0x109F (both (leb 0x1080 identifier) (leb identifier 0x109F) inside).1 in
    let own : List ℕ = take page_content (drop (page_content * (number - 1)) p) in
    small_octets (and (serial / 256) (omega arith) (and (serial % 256) (omega arith) (and (identifier / 256) (omega arith) (and (identifier % 256) (omega arith)
    (and dcs d (and (parameter (pages (length p)) number) (fits (pages (length p)) number (most_pages_lem (length p) most) high)
    (append_small (take_small page_content (drop_small (page_content * (number - 1)) (octets_small p o))) (zero_small (page_content - length own)))))))))
  where
    fits : (t m : ℕ) → t ≤ 15 → m ≤ t → parameter t m < 256
    fits t m f h = omega arith
