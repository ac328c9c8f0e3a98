-- What is folded over stored pins is folded over the pins that they are.
use Rattle.std.proofs.Common.{◌≡◌, ℕ, ◌+◌, ◌<◌, Bool, ◌||◌, List, [], ◌∷◌, ◌++◌, map, take, length, get_or, fold, Option, refl, ap, sym, ◌∙◌}
use Rattle.std.specs.List.{list_any}
use Rattle.std.proofs.lemmas.List.Folds.{fold-map}
use Rattle.std.proofs.lemmas.List.{take_more, length-map}
use Rattle.lf_floorplan.specs.declared.place.Place.{Place}
use Rattle.lf_wire_length.specs.declared.joined.JoinedTeams.TheVariants.{NoTeam}
use Rattle.lf_wire_length.specs.declared.points.PinOffset.{PinOffset}
use Rattle.lf_wire_length.specs.declared.pins.PackedPin.{PackedPin}
use Rattle.lf_wire_length.specs.Counts.{counts_after, no_pins, pin_counts, with_pin_counted}
use Rattle.lf_wire_length.specs.Stored.{pin_stored, stored_nets}
use Rattle.lf_wire_length.specs.declared.joined.NetSummary.{NetSummary}
use Rattle.lf_wire_length.specs.declared.stored.StoredNets.{StoredNets}
use Rattle.lf_wire_length.specs.Teams.{is_of_team, joined_after, joined_teams, joined_with, joins_team, net_summary, team_of_pin}
use Rattle.lf_wire_length.proofs.CountLemmas.{pins_are_counted}
use Rattle.lf_wire_length.proofs.StoredLemmas.{nets_counted}

pub teams_mapped : (place : ℕ → Option Place) (team : ℕ → ℕ) (rows : List PinOffset) (pins : List PackedPin) → joined_teams place team (map (pin_stored rows) pins) ≡ fold (joined_after place team rows) NoTeam pins
teams_mapped place team rows pins = fold-map (λ teams pin. joined_with teams (team_of_pin place team pin)) (pin_stored rows) NoTeam pins

pub team_mapped : (place : ℕ → Option Place) (team : ℕ → ℕ) (rows : List PinOffset) (own : ℕ) (pins : List PackedPin) → joins_team place team own (map (pin_stored rows) pins) ≡ list_any (is_of_team place team rows own) pins
team_mapped place team rows own [] = refl
team_mapped place team rows own (p ∷ pins) = ap (λ b. is_of_team place team rows own p || b) (team_mapped place team rows own pins)

pub counts_mapped : (place : ℕ → Option Place) (rows : List PinOffset) (pins : List PackedPin) → pin_counts place (map (pin_stored rows) pins) ≡ fold (counts_after place rows) no_pins pins
counts_mapped place rows pins = sym (pins_are_counted place (map (pin_stored rows) pins)) ∙ fold-map (with_pin_counted place) (pin_stored rows) no_pins pins

-- There is a summary of each net.
pub summaries_counted : (place : ℕ → Option Place) (team : ℕ → ℕ) (stored : StoredNets) (xs : List NetSummary) → xs ≡ map (net_summary place team) (stored_nets stored) → length xs ≡ length stored.starts.now
summaries_counted place team stored xs e =
    ap length e ∙ length-map (stored_nets stored) (net_summary place team)
    ∙ nets_counted stored.starts.now (map (pin_stored stored.rows.now) stored.pins.now)

mapped_last : {X Y : Type 0} (f : X → Y) (xs : List X) (x : X) → map f (xs ++ x ∷ []) ≡ map f xs ++ f x ∷ []
mapped_last f [] x = refl
mapped_last f (y ∷ xs) x = ap (λ ys. f y ∷ ys) (mapped_last f xs x)

-- The values of the first elements, and that of one more.
pub mapped_more : {X Y : Type 0} (f : X → Y) (xs : List X) (i : ℕ) (d : X) (ys : List Y) (y : Y) → i < length xs → ys ≡ map f (take i xs) → y ≡ f (get_or xs i d) → ys ++ y ∷ [] ≡ map f (take (i + 1) xs)
mapped_more f xs i d ys y below first last =
    rw (first, last) (sym (ap (map f) (take_more xs i d below) ∙ mapped_last f (take i xs) (get_or xs i d)))
