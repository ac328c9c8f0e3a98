-- Netlists with one row, net or pin more, as contracts see them.
use Rattle.std.proofs.Common.{◌≡◌, ℕ, ◌+◌, ◌<◌, ◌≤◌, List, [], ◌∷◌, ◌++◌, map, length, All, arith, refl, ap, ap₂, ◌∙◌, sym}
use Rattle.std.proofs.lemmas.List.{length-append, length-map}
use Rattle.std.proofs.lemmas.List.Elements.{All-push}
use Rattle.lf_wire_length.specs.declared.points.PinOffset.{PinOffset}
use Rattle.lf_wire_length.specs.declared.pins.PackedPin.{PackedPin}
use Rattle.lf_wire_length.specs.declared.pins.NetPin.{NetPin}
use Rattle.lf_wire_length.specs.declared.pins.PinRow.{PinRow}
use Rattle.lf_wire_length.specs.Bounds.{IsPinOffset}
use Rattle.lf_wire_length.specs.Stored.{IsNetlist, IsRowKnown, NetlistView, net_view, nets_from, pin_by_row, pin_stored, with_empty_net, with_pin, with_pin_row, with_table_row}
use Rattle.lf_wire_length.proofs.StoredLemmas.{known_longer, nets_pushed, nets_started, pins_kept, starts_longer}

one_more : {X : Type 0} (xs : List X) (x : X) → length (xs ++ x ∷ []) ≡ length xs + 1
one_more xs x = length-append xs (x ∷ [])

view_of : List PinOffset → List (List NetPin) → ℕ → NetlistView
view_of rows nets pins = record { rows = rows; nets = nets; pins = pins }

pub row_added : (rows : List PinOffset) (starts : List ℕ) (pins : List PackedPin) (r : PinOffset) → IsNetlist rows starts pins → net_view (rows ++ r ∷ []) starts pins ≡ with_table_row r (net_view rows starts pins)
unfolding view_of
row_added rows starts pins r l = ap (λ ps. view_of (rows ++ r ∷ []) (nets_from starts ps) (length pins)) (pins_kept rows r pins l.rows_known)

pub row_kept : (rows : List PinOffset) (starts : List ℕ) (pins : List PackedPin) (r : PinOffset) → IsNetlist rows starts pins → IsPinOffset r → length rows < 4294967295 → IsNetlist (rows ++ r ∷ []) starts pins
row_kept rows starts pins r l inside room = record {
  rows_in_range = All-push IsPinOffset rows r l.rows_in_range inside;
  rows_known = known_longer rows r pins l.rows_known;
  starts_within = l.starts_within;
  few_nets = l.few_nets;
  few_pins = l.few_pins;
  few_rows = rw (one_more rows r) (omega arith);
}

pub net_added : (rows : List PinOffset) (starts : List ℕ) (pins : List PackedPin) (start : ℕ) → start ≡ length pins → net_view rows (starts ++ start ∷ []) pins ≡ with_empty_net (net_view rows starts pins)
unfolding view_of
net_added rows starts pins start e =
    let m : start ≡ length (map (pin_stored rows) pins) = e ∙ sym (length-map pins (pin_stored rows)) in
    ap (λ s. view_of rows (nets_from (starts ++ s ∷ []) (map (pin_stored rows) pins)) (length pins)) m
    ∙ ap (λ nets. view_of rows nets (length pins)) (nets_started starts (map (pin_stored rows) pins))

pub net_kept : (rows : List PinOffset) (starts : List ℕ) (pins : List PackedPin) (start : ℕ) → start ≡ length pins → IsNetlist rows starts pins → length starts < 16777216 → IsNetlist rows (starts ++ start ∷ []) pins
net_kept rows starts pins start e l room = record {
  rows_in_range = l.rows_in_range;
  rows_known = l.rows_known;
  starts_within = All-push (λ s. s ≤ length pins) starts start l.starts_within (omega arith);
  few_nets = rw (one_more starts start) (omega arith);
  few_pins = l.few_pins;
  few_rows = l.few_rows;
}

pushed : {X Y : Type 0} (f : X → Y) (xs : List X) (x : X) → map f (xs ++ x ∷ []) ≡ map f xs ++ f x ∷ []
pushed f [] x = refl
pushed f (y ∷ xs) x = ap (λ ys. f y ∷ ys) (pushed f xs x)

within_mapped : (rows : List PinOffset) (pins : List PackedPin) (starts : List ℕ) → All (λ s. s ≤ length pins) starts → All (λ s. s ≤ length (map (pin_stored rows) pins)) starts
within_mapped rows pins starts all = rw (length-map pins (pin_stored rows)) all

pub pin_added : (rows : List PinOffset) (starts : List ℕ) (pins : List PackedPin) (p : PackedPin) (pin : PinRow) → pin_stored rows p ≡ pin_by_row rows pin → IsNetlist rows starts pins → net_view rows starts (pins ++ p ∷ []) ≡ with_pin_row pin (net_view rows starts pins)
unfolding view_of
pin_added rows starts pins p pin e l =
    let stored = map (pin_stored rows) pins in
    ap₂ (λ ps n. view_of rows (nets_from starts ps) n) (pushed (pin_stored rows) pins p) (one_more pins p)
    ∙ ap (λ nets. view_of rows nets (length pins + 1))
    (nets_pushed starts stored (pin_stored rows p) (within_mapped rows pins starts l.starts_within)
    ∙ ap (λ q. with_pin q (nets_from starts stored)) e)

pub pin_added_kept : (rows : List PinOffset) (starts : List ℕ) (pins : List PackedPin) (p : PackedPin) → IsRowKnown (length rows) p → IsNetlist rows starts pins → length pins < 4294967295 → IsNetlist rows starts (pins ++ p ∷ [])
pin_added_kept rows starts pins p known l room = record {
  rows_in_range = l.rows_in_range;
  rows_known = All-push (IsRowKnown (length rows)) pins p l.rows_known known;
  starts_within = rw (one_more pins p) (starts_longer starts (length pins) l.starts_within);
  few_nets = l.few_nets;
  few_pins = rw (one_more pins p) (omega arith);
  few_rows = l.few_rows;
}
