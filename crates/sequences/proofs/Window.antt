-- The wake window, call by call: what a call with another key leaves of the key's series, and what a call with the key itself comes to.
use Prim.Native.Nat.{ℕ, suc, ◌+◌, ◌-◌, ◌≤◌, ◌<◌}
use mathlib.Core.Path.{◌≡◌, refl, sym, ap, ◌∙◌, subst}
use mathlib.Core.Logic.{inl, ⊎_elim}
use mathlib.Core.Bool.{Bool, true, false, cond, ◌||◌}
use mathlib.Core.List.{List, [], ◌∷◌, ◌++◌}
use mathlib.Core.Option.{Option, none, some}
use native.Mathlib.Omega.{arith}
use lib.ListN.{length, get_or, get_or-append, length-replicate, get_or-replicate}
use lib.Seq.{take-append_seam}
use lib.Dec.{eqb}
use borrow.Author.Tests.{ne_eqb}
use Rattle.octets.specs.Octets.{placed}
use Rattle.octets.specs.Tests.{clash, Same, same, other, same?}
use Rattle.types.specs.declared.Kind.{Kind}
use Rattle.packet.specs.Packets.{cpl, well_formed}
use Rattle.packet.proofs.PacketLaws.{formed_facts}
use Rattle.types.specs.declared.Key.{Key}
use Rattle.arrival.specs.Message.{most_parts}
use Rattle.arrival.specs.Keys.{of_pages}
use Rattle.arrival.specs.Laws.{Admitted}
use Rattle.joined.specs.Fronts.{packet_in}
use Rattle.types.specs.declared.Slot.{Slot}
use Rattle.slots.specs.BelowLaws.{all_at, all_same, count_at_most}
use Rattle.slots.specs.Slots.{slot_at, opened, used, at_front, held_at, length_at, with_part, with_slots, aged, closed, to_front, freed}
use Rattle.formed.specs.Formed.{mark_at}
use Rattle.slots.specs.RankLaws.{has_rank, pos_taken, closed_taken, closed_mono, rank_bound, ranks_differ}
use Rattle.slots.proofs.AgedLaws.{aged_taken, aged_mono}
use Rattle.slots.specs.FrontLaws.{front_here, front_there, freed_here, freed_there}
use Rattle.formed.specs.Laws.{array_holds, Formed, UsedSlot, slot_tells}
use Rattle.series.specs.PartLaws.{total_bounds}
use Rattle.cells.specs.Cells.{cell_octets, cells_size, cell_at, cell_part, part_of, joined_octets}
use Rattle.cells.specs.CellLaws.{part_by_length, cell_there}
use Rattle.series.specs.Taking.{State, After, state, kept, held_already, after, Step, repeats, keeps, finishes, completes, acted, hand_out}
use Rattle.series.specs.CaseLaws.{Bears, Lacks, Case, other_total, other_octets, held_so, last, more, takes_free, displaces}
use Rattle.beats.specs.Beats.{slots_after_beat}
use Rattle.beats.proofs.BeatenLaws.{stayed}
use Rattle.series.specs.KeepLaws.{short}
use Rattle.series.specs.KeepLaws.{length_short}
use Rattle.sequences.specs.Lists.{concat, elem, elem_key, add, add_key, complete}
use Rattle.sequences.specs.Runs.{Call, outcome}
use Rattle.sequences.specs.Timely.{InTime}
use Rattle.sequences.specs.Wake.{Cut, in_messages, in_pages, History, counts, first_slot, Seating, lowest_free, least_recent_lem, goes_on, Served, again as served-again, waits, wakes}
use Rattle.sequences.proofs.Lists.{add_old, add_not_nil, first_known, complete_add, one_short, elem_key_add, elem_key_self, length_add_key, pigeon, keys_apart, joined_parts}
use Rattle.sequences.proofs.Track.{Track, lacks_moved, track_moved, track_again, track_beat, track_kept}

-- ---- the packet that the parts hold
pub packet_in_lem : (k : Kind) (K : Key) (P : List ℕ) (parts : List (List ℕ)) → well_formed k P ≡ true → Cut K P parts
    → packet_in k (of_pages K) (length parts) (concat parts) ≡ some P
unfolding packet_in
packet_in_lem k K P parts good (in_messages m e) = rw (m, e, good)
packet_in_lem k K P parts good (in_pages m filler e allowed) =
    let f = formed_facts k P good in
    let size : cpl P + 2 ≡ length P = f.whole in
    let a : get_or (P ++ filler) 0 0 ≡ get_or P 0 0 = get_or-append P filler 0 0 (omega (arith, f.inside)) in
    let b : get_or (P ++ filler) 1 0 ≡ get_or P 1 0 = get_or-append P filler 0 1 (omega (arith, f.inside)) in
    rw (m, e, a, b, size, take-append_seam, good, allowed)

module _ (n : ℕ) (K : Key) (parts : List (List ℕ)) where
  -- ---- how far the key's series has come
  -- and, once it has begun, that it is in slot i, which its first answer named
  pub data Phase (xs : List Slot) (cells : List ℕ) (got : List ℕ) (i : ℕ) (since : List Key) (late : List ℕ) : Type 0 where
    before : got ≡ [] → Lacks n xs K → Phase xs cells got i since late
    during : (got ≡ [] → ⊥) → (length since < n → InTime late → Track n K parts xs cells i got since late) → Phase xs cells got i since late
    done : complete (length parts) got ≡ true → Phase xs cells got i since late

  -- ---- a call with another key
  module _ (k : Kind) (xs : List Slot) (cells : List ℕ) (w : Formed n k xs) (long : length cells ≡ cells_size n) (X : Key) (ne : X ≡ K → ⊥)
      (got : List ℕ) (i : ℕ) (since : List Key) (late : List ℕ) where
    -- a slot that bears another key is another slot
    elsewhere : (j : ℕ) → Bears n xs K i → (slot_at xs j).key ≡ X → i ≡ j → ⊥
    elsewhere j b e p = ne (sym e ∙ ap (λ (l : ℕ). (slot_at xs l).key) (sym p) ∙ b.key)

    -- slot j comes to the front, with the key X
    fronted : (j : ℕ) → j < n → (y : Slot) → y.key ≡ X → (cells' : List ℕ)
        → ((m : ℕ) → (i ≡ j → ⊥) → 1 ≤ m → m ≤ most_parts → length_at (slot_at xs i) m ≤ cell_octets
        → cell_part cells' (slot_at (to_front xs j y) i) i m ≡ cell_part cells (slot_at xs i) i m)
        → (length (add_key X since) < n → Track n K parts xs cells i got since late → i ≡ j → ⊥)
        → Phase xs cells got i since late → Phase (to_front xs j y) cells' got i (add_key X since) late
    fronted j inside y e cells' stay apart (before z lacks) =
        before z (lacks_moved n K parts xs (to_front xs j y) j (aged (slot_at xs j).rank) (aged_taken (slot_at xs j).rank) (aged_mono (slot_at xs j).rank) (front_there xs j y) lacks
        (λ u q. ne (sym e ∙ ap (λ (x : Slot). x.key) (sym (front_here xs j y (omega (arith, array_holds n k xs w)))) ∙ q)))
    fronted j inside y e cells' stay apart (during z track) =
        during z (λ few soon.
        let tr = track (omega (arith, length_add_key X since)) soon in
        let here : slot_at (to_front xs j y) j ≡ at_front y = front_here xs j y (omega (arith, array_holds n k xs w)) in
        track_moved n K parts xs (to_front xs j y) j (aged (slot_at xs j).rank) (aged_taken (slot_at xs j).rank) (aged_mono (slot_at xs j).rank) (front_there xs j y)
        cells cells' i got since (add_key X since) late (apart few tr) tr (λ Y. elem_key_add X Y since)
        (λ u. rw (here, e) (elem_key_self X since))
        (λ m a b. stay m (apart few tr) a b (length_short k (slot_at xs i) (slot_tells k (slot_at xs i) (w.slots i tr.bears.inside) tr.bears.used) m a b)))
    fronted j inside y e cells' stay apart (done z) = done z

    -- slot j, which bears X, is freed
    freed_phase : (j : ℕ) → j < n → 0 < (slot_at xs j).rank → (slot_at xs j).key ≡ X → Phase xs cells got i since late → Phase (freed xs j) cells got i since late
    freed_phase j inside u e (before z lacks) =
        before z (lacks_moved n K parts xs (freed xs j) j (closed (slot_at xs j).rank) (λ q. closed_taken (slot_at xs j).rank q u) (closed_mono (slot_at xs j).rank) (freed_there xs j) lacks
        (λ v q. omega (arith, ap (λ (x : Slot). x.rank) (freed_here xs j (omega (arith, array_holds n k xs w))))))
    freed_phase j inside u e (during z track) =
        during z (λ few soon.
        let tr = track few soon in
        let apart : i ≡ j → ⊥ = elsewhere j tr.bears e in
        track_moved n K parts xs (freed xs j) j (closed (slot_at xs j).rank) (λ q. closed_taken (slot_at xs j).rank q u) (closed_mono (slot_at xs j).rank) (freed_there xs j)
        cells cells i got since since late apart tr (λ Y h. h)
        (λ v. absurd (omega (arith, ap (λ (x : Slot). x.rank) (freed_here xs j (omega (arith, array_holds n k xs w))))))
        (λ m a b. part_by_length cells (slot_at (freed xs j) i) (slot_at xs i) i m (ap (λ (x : Slot). length_at x m) (freed_there xs j i apart))))
    freed_phase j inside u e (done z) = done z

    -- THE HEART: the slot of the key is displaced only after n other keys. All other slots are more recent than it, so their keys, all
    -- different, have come since its last call, and X, which is none of them, comes now.
    window : Track n K parts xs cells i got since late → Lacks n xs X → (slot_at xs i).rank ≡ n → ((j : ℕ) → j < n → 0 < (slot_at xs j).rank)
        → n ≤ length (add_key X since)
    window tr lacks full all = pigeon n key (add_key X since) (λ j l. here j l (same? j i)) (keys_apart n n i xs X (λ j l ne. l) all w.keys lacks)
      where
        key : ℕ → Key
        key j = cond (eqb j i) X (slot_at xs j).key

        here : (j : ℕ) → j < n → Same j i → elem_key (cond (eqb j i) X (slot_at xs j).key) (add_key X since) ≡ true
        here j l (same e p) = rw e (elem_key_self X since)
        here j l (other e p) =
            let most : (slot_at xs j).rank ≤ n = omega (arith, rank_bound n (λ j. (slot_at xs j).rank) w.ranks j l, count_at_most n (has_rank (λ j. (slot_at xs j).rank))) in
            let not_last : (slot_at xs j).rank ≡ (slot_at xs i).rank → ⊥ = λ q. p (ranks_differ n (λ j. (slot_at xs j).rank) w.ranks j i l tr.bears.inside tr.bears.used q) in
            rw e (elem_key_add X (slot_at xs j).key since (tr.near j l (all j l) (below (slot_at xs j).rank (slot_at xs i).rank (omega arith) not_last)))
          where
            below : (a b : ℕ) → a ≤ b → (a ≡ b → ⊥) → a < b
            below a b h d = ⊎_elim (λ (q : a ≡ b). absurd (d q)) (λ (q : a < b). q) (native.Mathlib.Nat.eq-or-lt_of_le h)

  -- ---- a beat
  pub beat_phase : (limit : ℕ) (xs : List Slot) (cells got : List ℕ) (i : ℕ) (since : List Key) (late : List ℕ)
      → Phase xs cells got i since late → Phase (slots_after_beat limit xs) cells got i since (limit ∷ late)
  beat_phase limit xs cells got i since late (before z lacks) =
      before z (λ j l u e. let s = stayed limit xs j u in lacks j l s.used (sym (ap (λ (x : Slot). x.key) s.is) ∙ e))
  beat_phase limit xs cells got i since late (during z track) =
      during z (λ few soon. track_beat n K parts limit xs cells i got since late soon.0 (track few soon.1))
  beat_phase limit xs cells got i since late (done z) = done z

  -- ---- a call with another key, by cases
  module _ (k : Kind) (s : State) (w : Formed n k s.rec.slots) (long : length s.cells ≡ cells_size n) (X : Key) (ne : X ≡ K → ⊥) (total number : ℕ) (o : List ℕ)
      (adm : Admitted k X total number o) (got : List ℕ) (i : ℕ) (since : List Key) (late : List ℕ) where
    abbrev xs : List Slot
    xs = s.rec.slots

    abbrev PhaseAfter : After → Type 0
    PhaseAfter a = Phase a.state.rec.slots a.state.cells got i (cond (counts a) (add_key X since) since) late

    -- the part is written to the cells of slot j: those of every other slot stay
    written : (j : ℕ) → j < n → (y : Slot) (m : ℕ) → (i ≡ j → ⊥) → 1 ≤ m → m ≤ most_parts → length_at (slot_at xs i) m ≤ cell_octets
        → cell_part (placed s.cells (cell_at j number) o) (slot_at (to_front xs j y) i) i m ≡ cell_part s.cells (slot_at xs i) i m
    written j l y m ne' a b small =
        cell_there n s.cells long j number l adm.low (omega (arith, adm.high, total_bounds X total adm.total_fits)) o (short X number (length o) adm.length_fits)
        (slot_at (to_front xs j y) i) (slot_at xs i) i m a b (ap (λ (x : Slot). length_at x m) (front_there xs j y i ne')) small (inl ne')

    kept_phase : (j : ℕ) → j < n → (d : Bool) (x : Slot) → x.key ≡ X → (length (add_key X since) < n → Track n K parts xs s.cells i got since late → i ≡ j → ⊥)
        → Phase xs s.cells got i since late → PhaseAfter (acted n s X total number o (keeps j d x))
    kept_phase j l d x e apart =
        fronted k xs s.cells w long X ne got i since late j l (with_part x number (length o)) e (placed s.cells (cell_at j number) o) (written j l (with_part x number (length o))) apart

    handed_phase : (r : List Slot) (p : Option (List ℕ)) → Phase r s.cells got i since late → PhaseAfter (hand_out s (with_slots s.rec r) p)
    handed_phase r none ph = ph
    handed_phase r (some p) ph = ph

    pub other_part : (st : Step) → Case n s X total number o st → Phase xs s.cells got i since late → PhaseAfter (acted n s X total number o st)
    other_part st (other_total j b t) ph = ph
    other_part st (other_octets j b t h c) ph = ph
    other_part st (held_so j b t h c) ph =
        fronted k xs s.cells w long X ne got i since late j b.inside (slot_at xs j) b.key s.cells
        (λ m apart a l small. part_by_length s.cells (slot_at (to_front xs j (slot_at xs j)) i) (slot_at xs i) i m (ap (λ (x : Slot). length_at x m) (front_there xs j (slot_at xs j) i apart)))
        (λ few tr. elsewhere k xs s.cells w long X ne got i since late j tr.bears b.key) ph
    other_part st (last j b t h c) ph =
        handed_phase (freed xs j) (packet_in s.rec.kind (of_pages X) total (joined_octets s.cells (slot_at xs j) j number o))
        (freed_phase k xs s.cells w long X ne got i since late j b.inside b.used b.key ph)
    other_part st (more j b t h c) ph =
        kept_phase j b.inside false (slot_at xs j) b.key (λ few tr. elsewhere k xs s.cells w long X ne got i since late j tr.bears b.key) ph
    other_part st (takes_free j lacks l z lower) ph =
        kept_phase j l false (opened X total) refl (λ few tr p. omega (arith, tr.bears.used, ap (λ (m : ℕ). (slot_at xs m).rank) p)) ph
    other_part st (displaces j lacks l z all) ph =
        kept_phase j l true (opened X total) refl
        (λ few tr p. omega (arith, window k xs s.cells w long X ne got i since late tr lacks (ap (λ (m : ℕ). (slot_at xs m).rank) p ∙ z) all)) ph

-- ---- a call with the key
-- what it comes to, and how far the series has come with it
pub record Serves (n : ℕ) (k : Kind) (K : Key) (P : List ℕ) (parts : List (List ℕ)) (q : History) (c : Call) (total number start : ℕ) (a : After) : Type 0 where
  pub served : outcome n q.store c ≡ a → Served n k K P parts q c total number start
  pub phase : Phase n K parts a.state.rec.slots a.state.cells (add number q.arrived) (first_slot q.arrived a.answer q.slot) [] []

-- a part that is kept is in the slot of the first answer
named : {n : ℕ} {rank : ℕ → ℕ} {i : ℕ} {d : Bool} (q : History) → Seating n rank q i d → first_slot q.arrived (kept i d) q.slot ≡ i
named q (lowest_free z l f lower) = rw z
named q (least_recent_lem z l all) = rw z
named {i = i} q (goes_on begun is) = first_known q.arrived (kept i false) q.slot begun ∙ sym is

module _ (n : ℕ) (k : Kind) (K : Key) (P : List ℕ) (parts : List (List ℕ)) (good : well_formed k P ≡ true) (cut : Cut K P parts) (two : 2 ≤ length parts)
    (q : History) (c : Call) (kind : q.store.rec.kind ≡ k) (w : Formed n k q.store.rec.slots) (long : length q.store.cells ≡ cells_size n)
    (number start : ℕ) (o : List ℕ) (adm : Admitted k K (length parts) number o) (brought : o ≡ get_or parts (number - 1) []) where
  abbrev s : State
  s = state q.store.rec q.store.cells c.output

  abbrev own : List Slot
  own = q.store.rec.slots

  high : number ≤ most_parts
  high = omega (arith, adm.high, total_bounds K (length parts) adm.total_fits)

  small : length o ≤ cell_octets
  small = short K number (length o) adm.length_fits

  abbrev Fine : After → Type 0
  Fine = Serves n k K P parts q c (length parts) number start

  -- the part is kept in slot i, whose entry was x: the series' own, or one that is opened for it
  fine_kept : (i : ℕ) → i < n → (d : Bool) (x : Slot) → x.key ≡ K → x.total ≡ length parts → length x.lengths ≡ most_parts → length x.held ≡ most_parts
      → ((m : ℕ) → 1 ≤ m → m ≤ most_parts → held_at x m ≡ elem m q.arrived)
      → ((m : ℕ) → 1 ≤ m → m ≤ most_parts → elem m q.arrived ≡ true → (length_at x m ≤ cell_octets) × (cell_part q.store.cells x i m ≡ get_or parts (m - 1) []))
      → elem number q.arrived ≡ false → complete (length parts) (add number q.arrived) ≡ false
      → Seating n (λ j. (slot_at own j).rank) q i d → Fine (acted n s K (length parts) number o (keeps i d x))
  fine_kept i inside d x e t ls ms held octets new open' place =
      let tr = track_kept n K parts k own (array_holds n k own w) q.store.cells long i inside x e t ls ms q.arrived held octets number adm.low high o small brought in
      let r = with_slots q.store.rec (to_front own i (with_part x number (length o))) in
      record {
        served = λ h. waits r i d new open' (h ∙ ap (λ (p : List ℕ). after (kept i d) r (placed q.store.cells (cell_at i number) p) c.output) brought) place tr.bears;
        phase = rw (named q place) (during (add_not_nil number q.arrived) (λ few soon. tr));
      }

  module _ (i : ℕ) (is : i ≡ q.slot) (since : List Key) (late : List ℕ) (tr : Track n K parts own q.store.cells i q.arrived since late) where
    used_slot : UsedSlot k (slot_at own i)
    used_slot = slot_tells k (slot_at own i) (w.slots i tr.bears.inside) tr.bears.used

    -- with the part, none is missing: as the slot has it, and as the calls have brought them
    told : completes (slot_at own i) number ≡ complete (length parts) (add number q.arrived)
    told =
        rw tr.total (all_same (length parts) (λ j. eqb (j + 1) number || mark_at (slot_at own i) j) (λ j. eqb (j + 1) number || elem (j + 1) q.arrived) (λ j l. mark j l))
        ∙ sym (complete_add (length parts) number q.arrived)
      where
        mark : (j : ℕ) → j < length parts → eqb (j + 1) number || mark_at (slot_at own i) j ≡ eqb (j + 1) number || elem (j + 1) q.arrived
        mark j l =
            let z : j + 1 - 1 ≡ j = omega arith in
            let h : mark_at (slot_at own i) j ≡ elem (j + 1) q.arrived =
            ap (mark_at (slot_at own i)) (sym z) ∙ tr.held (j + 1) (omega arith) (omega (arith, total_bounds K (length parts) adm.total_fits)) in
            rw h

    -- all parts in order, the one that arrives among them, are the parts of the packet
    whole : complete (length parts) (add number q.arrived) ≡ true → joined_octets q.store.cells (slot_at own i) i number o ≡ concat parts
    unfolding joined_octets
    whole full = rw tr.total (joined_parts parts (part_of q.store.cells (slot_at own i) i number o) (λ m l. piece m l (same? (suc m) number)))
      where
        piece : (m : ℕ) → m < length parts → Same (suc m) number → cond (eqb (suc m) number) o (cell_part q.store.cells (slot_at own i) i (suc m)) ≡ get_or parts m []
        piece m l (same e p) = let z : number - 1 ≡ m = omega arith in rw e (brought ∙ ap (λ (j : ℕ). get_or parts j []) z)
        piece m l (other e p) =
            let z : m + 1 ≡ suc m = omega arith in
            let h : eqb (m + 1) number || elem (m + 1) q.arrived ≡ true =
            all_at (length parts) (λ j. eqb (j + 1) number || elem (j + 1) q.arrived) (sym (complete_add (length parts) number q.arrived) ∙ full) m l in
            let h' : eqb (suc m) number || elem (suc m) q.arrived ≡ true = rw z at h in
            rw e (tr.octets (suc m) (omega arith) (omega (arith, total_bounds K (length parts) adm.total_fits)) (simp e at h') ∙ ap (λ (j : ℕ). get_or parts j []) (omega arith))

    fine_again : elem number q.arrived ≡ true → Fine (acted n s K (length parts) number o (repeats i))
    fine_again old =
        let tr' = track_again n K parts own q.store.cells i q.arrived since late (array_holds n k own w) tr in
        let r = with_slots q.store.rec (to_front own i (slot_at own i)) in
        record {
          served = λ h. served-again r old (subst (Bears n r.slots K) is tr'.bears) (h ∙ ap (λ (j : ℕ). after (held_already j) r q.store.cells c.output) is);
          phase = rw (add_old number q.arrived old, first_known q.arrived (held_already i) q.slot not_none, ← is) (during (λ e. not_none e) (λ few soon. tr'));
        }
      where
        not_none : q.arrived ≡ [] → ⊥
        not_none e = clash false (ap (elem number) (sym e) ∙ old) refl

    -- the slot is freed, and no other bears the key
    gone : Lacks n (freed own i) K
    gone j l u e = go (same? j i)
      where
        go : Same j i → ⊥
        go (same f p) = omega (arith, ap (λ (m : ℕ). (slot_at (freed own i) m).rank) p, ap (λ (x : Slot). x.rank) (freed_here own i (omega (arith, array_holds n k own w, tr.bears.inside))))
        go (other f p) = p (w.keys j i l tr.bears.inside (was j p u) tr.bears.used (ap (λ (x : Slot). x.key) (sym (freed_there own i j p)) ∙ e ∙ sym tr.bears.key))
          where
            was : (j : ℕ) → (j ≡ i → ⊥) → 0 < (slot_at (freed own i) j).rank → 0 < (slot_at own j).rank
            was j p u = pos_taken (slot_at own j).rank (sym (closed_taken (slot_at own i).rank (slot_at own j).rank tr.bears.used) ∙ ap (λ (x : Slot). used x) (sym (freed_there own i j p)) ∙ rw (ne_eqb (slot_at (freed own i) j).rank 0 (λ z. omega arith)))

    fine_last : elem number q.arrived ≡ false → complete (length parts) (add number q.arrived) ≡ true → Fine (acted n s K (length parts) number o (finishes i))
    fine_last new full =
        let holds : packet_in q.store.rec.kind (of_pages K) (length parts) (joined_octets q.store.cells (slot_at own i) i number o) ≡ some P =
        ap (λ (x : Kind). packet_in x (of_pages K) (length parts) (joined_octets q.store.cells (slot_at own i) i number o)) kind
        ∙ ap (packet_in k (of_pages K) (length parts)) (whole full) ∙ packet_in_lem k K P parts good cut in
        subst (λ (p : Option (List ℕ)). Fine (hand_out s (with_slots q.store.rec (freed own i)) p)) (sym holds)
        (record { served = λ h. wakes (with_slots q.store.rec (freed own i)) new full gone h; phase = done full })

  -- the series is there, in the slot of its first answer: every other case is impossible
  module _ (begun : q.arrived ≡ [] → ⊥) (since : List Key) (late : List ℕ) (tr : Track n K parts own q.store.cells q.slot q.arrived since late) where
    is : (j : ℕ) → Bears n own K j → j ≡ q.slot
    is j b = w.keys j q.slot b.inside tr.bears.inside b.used tr.bears.used (b.key ∙ sym tr.bears.key)

    here : (j : ℕ) → Bears n own K j → Track n K parts own q.store.cells j q.arrived since late
    here j b = subst (λ (m : ℕ). Track n K parts own q.store.cells m q.arrived since late) (sym (is j b)) tr

    pub fine_known : (st : Step) → Case n s K (length parts) number o st → Fine (acted n s K (length parts) number o st)
    fine_known st (other_total j b t) = absurd (t (here j b).total)
    fine_known st (other_octets j b t h e) =
        let t' = here j b in absurd (e (t'.octets number adm.low high (sym (t'.held number adm.low high) ∙ h) ∙ sym brought))
    fine_known st (held_so j b t h e) = let t' = here j b in fine_again j (is j b) since late t' (sym (t'.held number adm.low high) ∙ h)
    fine_known st (last j b t h e) = let t' = here j b in fine_last j (is j b) since late t' (sym (t'.held number adm.low high) ∙ h) (sym (told j (is j b) since late t') ∙ e)
    fine_known st (more j b t h e) =
        let t' = here j b in
        let u = used_slot j (is j b) since late t' in
        fine_kept j b.inside false (slot_at own j) b.key t u.lengths u.marks t'.held
        (λ m a l d. (length_short k (slot_at own j) u m a l, t'.octets m a l d))
        (sym (t'.held number adm.low high) ∙ h) (sym (told j (is j b) since late t') ∙ e)
        (goes_on begun (is j b))
    fine_known st (takes_free j lacks l z lower) = absurd (lacks q.slot tr.bears.inside tr.bears.used tr.bears.key)
    fine_known st (displaces j lacks l z all) = absurd (lacks q.slot tr.bears.inside tr.bears.used tr.bears.key)

  -- no slot bears the key yet
  module _ (none_yet : q.arrived ≡ []) (lacks : Lacks n own K) where
    fine_new : (i : ℕ) → i < n → (d : Bool) → Seating n (λ j. (slot_at own j).rank) q i d → Fine (acted n s K (length parts) number o (keeps i d (opened K (length parts))))
    fine_new i l d place =
        fine_kept i l d (opened K (length parts)) refl refl (length-replicate {A = ℕ} most_parts 0) (length-replicate most_parts false)
        (λ m a b. get_or-replicate most_parts (m - 1) false false (omega arith) ∙ sym (ap (elem m) none_yet))
        (λ m a b e. absurd (clash false (ap (elem m) (sym none_yet) ∙ e) refl))
        (ap (elem number) none_yet) (ap (λ (l : List ℕ). complete (length parts) (add number l)) none_yet ∙ one_short (length parts) number two) place

    nobody : (j : ℕ) → Bears n own K j → ⊥
    nobody j b = lacks j b.inside b.used b.key

    pub fine_first : (st : Step) → Case n s K (length parts) number o st → Fine (acted n s K (length parts) number o st)
    fine_first st (other_total j b t) = absurd (nobody j b)
    fine_first st (other_octets j b t h e) = absurd (nobody j b)
    fine_first st (held_so j b t h e) = absurd (nobody j b)
    fine_first st (last j b t h e) = absurd (nobody j b)
    fine_first st (more j b t h e) = absurd (nobody j b)
    fine_first st (takes_free j l a z lower) = fine_new j a false (lowest_free none_yet a z lower)
    fine_first st (displaces j l a z all) = fine_new j a true (least_recent_lem none_yet a (λ m h. (all m h, last_rank_lem m h)))
      where
        last_rank_lem : (m : ℕ) → m < n → (slot_at own m).rank ≤ (slot_at own j).rank
        last_rank_lem m h = omega (arith, rank_bound n (λ j. (slot_at own j).rank) w.ranks m h, count_at_most n (has_rank (λ j. (slot_at own j).rank)), z)
