-- What is counted pin by pin, or net by net, is the counts of all.
use Rattle.std.proofs.Common.{◌≡◌, ◌∙◌, ℕ, ◌+◌, ◌==◌, Bool, true, false, cond, List, [], ◌∷◌, fold, Option, Some, None, arith, refl, sym, ap, if◌then◌else◌}
use Rattle.std.specs.Prelude.{◌&&◌, count_by, filter, sum_by}
use Rattle.std.proofs.lemmas.List.Sums.{sum_by-cons}
use Rattle.lf_floorplan.specs.declared.place.Place.{Place}
use Rattle.lf_wire_length.specs.declared.counts.NetCounts.{NetCounts}
use Rattle.lf_wire_length.specs.declared.counts.PinCounts.{PinCounts}
use Rattle.lf_wire_length.specs.declared.joined.JoinedTeams.{JoinedTeams}
use Rattle.lf_wire_length.specs.declared.joined.JoinedTeams.TheVariants.{NoTeam, OneTeam, SeveralTeams}
use Rattle.lf_wire_length.specs.declared.pins.NetPin.{NetPin}
use Rattle.lf_wire_length.specs.declared.pins.NetPin.TheVariants.{Fixed, OfCell, Unknown, Unplaced}
use Rattle.lf_wire_length.specs.declared.team_lengths.TeamLengths.{TeamLengths}
use Rattle.lf_wire_length.specs.Length.{length_of_net}
use Rattle.lf_wire_length.specs.Counts.{is_counted, is_crossing, is_no_team, is_short, is_unknown, is_unplaced, length_if_crossing, net_counts, no_counts, no_pins, one_if_crossing, one_if_fixed, pin_counts, with_cell_pin, with_pin_counted, with_pins_of_net}
use Rattle.lf_wire_length.specs.Teams.{are_several_teams, joined_teams, joins_only, joins_team, joins_with_others, is_only_team, no_team_lengths, team_lengths, with_net_of_team, with_own_net, with_pins_of_team}

-- A field to which each step adds a number is the sum of these numbers.
field_sum : {S X : Type 0} (step : S → X → S) (field : S → ℕ) (f : X → ℕ) → ((s : S) (x : X) → field (step s x) ≡ field s + f x) → (s : S) (xs : List X) → field (fold step s xs) ≡ field s + sum_by f xs
field_sum step field f adds s [] = omega arith
field_sum step field f adds s (x ∷ xs) =
    let later = field_sum step field f adds (step s x) xs in
    later ∙ omega (arith, adds s x, sum_by-cons f x xs)

-- The sum over the elements that pass a test.
sum_of_passing : {X : Type 0} (p : X → Bool) (f : X → ℕ) (xs : List X) → sum_by f (filter p xs) ≡ sum_by (λ x. cond (p x) (f x) 0) xs
sum_of_passing p f [] = refl
sum_of_passing p f (x ∷ xs) = by (p x) (sum_of_passing p f xs) ∙ sym (sum_by-cons (λ y. cond (p y) (f y) 0) x xs)
  where
    by : (b : Bool) → sum_by f (filter p xs) ≡ sum_by (λ y. cond (p y) (f y) 0) xs → sum_by f (cond b (x ∷ filter p xs) (filter p xs)) ≡ cond b (f x) 0 + sum_by (λ y. cond (p y) (f y) 0) xs
    by true is = sum_by-cons f x (filter p xs) ∙ ap (λ n. f x + n) is
    by false is = is ∙ omega arith

-- ---- the pins of a net

counted_step : (place : ℕ → Option Place) (c : PinCounts) (pin : NetPin) → (with_pin_counted place c pin).counted ≡ c.counted + cond (is_counted place pin) 1 0
counted_step place c (Fixed point) = refl
counted_step place c (OfCell cell pin) = by (place cell)
  where
    by : (at : Option Place) → (with_cell_pin at c).counted ≡ c.counted + cond (is_counted (λ _. at) (OfCell cell pin)) 1 0
    by None = omega arith
    by (Some it) = refl
counted_step place c Unknown = omega arith
counted_step place c Unplaced = omega arith

unknown_step : (place : ℕ → Option Place) (c : PinCounts) (pin : NetPin) → (with_pin_counted place c pin).unknown ≡ c.unknown + cond (is_unknown pin) 1 0
unknown_step place c (Fixed point) = omega arith
unknown_step place c (OfCell cell pin) = by (place cell)
  where
    by : (at : Option Place) → (with_cell_pin at c).unknown ≡ c.unknown + 0
    by None = omega arith
    by (Some it) = omega arith
unknown_step place c Unknown = refl
unknown_step place c Unplaced = omega arith

unplaced_step : (place : ℕ → Option Place) (c : PinCounts) (pin : NetPin) → (with_pin_counted place c pin).unplaced ≡ c.unplaced + cond (is_unplaced place pin) 1 0
unplaced_step place c (Fixed point) = omega arith
unplaced_step place c (OfCell cell pin) = by (place cell)
  where
    by : (at : Option Place) → (with_cell_pin at c).unplaced ≡ c.unplaced + cond (is_unplaced (λ _. at) (OfCell cell pin)) 1 0
    by None = refl
    by (Some it) = omega arith
unplaced_step place c Unknown = omega arith
unplaced_step place c Unplaced = refl

same_pin_counts : (a b : PinCounts) → a.counted ≡ b.counted → a.unknown ≡ b.unknown → a.unplaced ≡ b.unplaced → a ≡ b
same_pin_counts a b counted unknown unplaced =
    ap (λ (n : ℕ). record { counted = n; unknown = a.unknown; unplaced = a.unplaced }) counted
    ∙ ap (λ (n : ℕ). record { counted = b.counted; unknown = n; unplaced = a.unplaced }) unknown
    ∙ ap (λ (n : ℕ). record { counted = b.counted; unknown = b.unknown; unplaced = n }) unplaced

pub pins_are_counted : (place : ℕ → Option Place) (pins : List NetPin) → fold (with_pin_counted place) no_pins pins ≡ pin_counts place pins
pins_are_counted place pins = same_pin_counts (fold (with_pin_counted place) no_pins pins) (pin_counts place pins)
    (field_sum (with_pin_counted place) (λ c. c.counted) (λ pin. cond (is_counted place pin) 1 0) (counted_step place) no_pins pins ∙ omega arith)
    (field_sum (with_pin_counted place) (λ c. c.unknown) (λ pin. cond (is_unknown pin) 1 0) (unknown_step place) no_pins pins ∙ omega arith)
    (field_sum (with_pin_counted place) (λ c. c.unplaced) (λ pin. cond (is_unplaced place pin) 1 0) (unplaced_step place) no_pins pins ∙ omega arith)

-- ---- the nets

fixed_one : (teams : JoinedTeams) → one_if_fixed teams ≡ cond (is_no_team teams) 1 0
fixed_one NoTeam = refl
fixed_one (OneTeam team) = refl
fixed_one SeveralTeams = refl

crossing_one : (teams : JoinedTeams) → one_if_crossing teams ≡ cond (are_several_teams teams) 1 0
crossing_one NoTeam = refl
crossing_one (OneTeam team) = refl
crossing_one SeveralTeams = refl

crossing_length : (length : ℕ) (teams : JoinedTeams) → length_if_crossing length teams ≡ cond (are_several_teams teams) length 0
crossing_length length NoTeam = refl
crossing_length length (OneTeam team) = refl
crossing_length length SeveralTeams = refl

same_net_counts : (a b : NetCounts) → a.pins ≡ b.pins → a.one_pin ≡ b.one_pin → a.unknown ≡ b.unknown → a.unplaced ≡ b.unplaced → a.fixed_nets ≡ b.fixed_nets
    → a.crossing_nets ≡ b.crossing_nets → a.crossing ≡ b.crossing → a ≡ b
same_net_counts a b p o u v f n c =
    ap (λ (x : ℕ). record { pins = x; one_pin = a.one_pin; unknown = a.unknown; unplaced = a.unplaced; fixed_nets = a.fixed_nets; crossing_nets = a.crossing_nets; crossing = a.crossing }) p
    ∙ ap (λ (x : ℕ). record { pins = b.pins; one_pin = x; unknown = a.unknown; unplaced = a.unplaced; fixed_nets = a.fixed_nets; crossing_nets = a.crossing_nets; crossing = a.crossing }) o
    ∙ ap (λ (x : ℕ). record { pins = b.pins; one_pin = b.one_pin; unknown = x; unplaced = a.unplaced; fixed_nets = a.fixed_nets; crossing_nets = a.crossing_nets; crossing = a.crossing }) u
    ∙ ap (λ (x : ℕ). record { pins = b.pins; one_pin = b.one_pin; unknown = b.unknown; unplaced = x; fixed_nets = a.fixed_nets; crossing_nets = a.crossing_nets; crossing = a.crossing }) v
    ∙ ap (λ (x : ℕ). record { pins = b.pins; one_pin = b.one_pin; unknown = b.unknown; unplaced = b.unplaced; fixed_nets = x; crossing_nets = a.crossing_nets; crossing = a.crossing }) f
    ∙ ap (λ (x : ℕ). record { pins = b.pins; one_pin = b.one_pin; unknown = b.unknown; unplaced = b.unplaced; fixed_nets = b.fixed_nets; crossing_nets = x; crossing = a.crossing }) n
    ∙ ap (λ (x : ℕ). record { pins = b.pins; one_pin = b.one_pin; unknown = b.unknown; unplaced = b.unplaced; fixed_nets = b.fixed_nets; crossing_nets = b.crossing_nets; crossing = x }) c

pub nets_are_counted : (place : ℕ → Option Place) (team : ℕ → ℕ) (nets : List (List NetPin)) → fold (with_pins_of_net place team) no_counts nets ≡ net_counts place team nets
nets_are_counted place team nets =
    let step = with_pins_of_net place team in
    same_net_counts (fold step no_counts nets) (net_counts place team nets)
    (field_sum step (λ s. s.pins) (λ pins. (pin_counts place pins).counted) (λ s pins. refl) no_counts nets ∙ omega arith)
    (field_sum step (λ s. s.one_pin) (λ pins. cond (is_short place pins) 1 0) (λ s pins. refl) no_counts nets ∙ omega arith)
    (field_sum step (λ s. s.unknown) (λ pins. (pin_counts place pins).unknown) (λ s pins. refl) no_counts nets ∙ omega arith)
    (field_sum step (λ s. s.unplaced) (λ pins. (pin_counts place pins).unplaced) (λ s pins. refl) no_counts nets ∙ omega arith)
    (field_sum step (λ s. s.fixed_nets) (λ pins. cond (is_no_team (joined_teams place team pins)) 1 0) (λ s pins. ap (λ n. s.fixed_nets + n) (fixed_one (joined_teams place team pins))) no_counts nets ∙ omega arith)
    (field_sum step (λ s. s.crossing_nets) (λ pins. cond (is_crossing place team pins) 1 0) (λ s pins. ap (λ n. s.crossing_nets + n) (crossing_one (joined_teams place team pins))) no_counts nets ∙ omega arith)
    (field_sum step (λ s. s.crossing) (λ pins. cond (is_crossing place team pins) (length_of_net place pins) 0) (λ s pins. ap (λ n. s.crossing + n) (crossing_length (length_of_net place pins) (joined_teams place team pins))) no_counts nets
    ∙ omega (arith, sum_of_passing (is_crossing place team) (length_of_net place) nets))

-- ---- the nets of a team

same_team_lengths : (a b : TeamLengths) → a.nets ≡ b.nets → a.own ≡ b.own → a.crossing_nets ≡ b.crossing_nets → a.crossing ≡ b.crossing → a ≡ b
same_team_lengths a b n o m c =
    ap (λ (x : ℕ). record { nets = x; own = a.own; crossing_nets = a.crossing_nets; crossing = a.crossing }) n
    ∙ ap (λ (x : ℕ). record { nets = b.nets; own = x; crossing_nets = a.crossing_nets; crossing = a.crossing }) o
    ∙ ap (λ (x : ℕ). record { nets = b.nets; own = b.own; crossing_nets = x; crossing = a.crossing }) m
    ∙ ap (λ (x : ℕ). record { nets = b.nets; own = b.own; crossing_nets = b.crossing_nets; crossing = x }) c

-- One net more adds to each number what it is for the team.
team_step : (own : ℕ) (joins : Bool) (length : ℕ) (teams : JoinedTeams) (s : TeamLengths) → with_net_of_team own joins length teams s ≡ record {
  nets = s.nets + cond (is_only_team own teams) 1 0;
  own = s.own + cond (is_only_team own teams) length 0;
  crossing_nets = s.crossing_nets + cond (are_several_teams teams && joins) 1 0;
  crossing = s.crossing + cond (are_several_teams teams && joins) length 0;
}
team_step own joins length NoTeam s = same_team_lengths _ _ (omega arith) (omega arith) (omega arith) (omega arith)
team_step own joins length (OneTeam team) s = by (team == own)
  where
    by : (b : Bool) → (if b then with_own_net length s else s) ≡ record { nets = s.nets + cond b 1 0; own = s.own + cond b length 0; crossing_nets = s.crossing_nets + 0; crossing = s.crossing + 0 }
    by true = same_team_lengths _ _ (omega arith) (omega arith) (omega arith) (omega arith)
    by false = same_team_lengths _ _ (omega arith) (omega arith) (omega arith) (omega arith)
team_step own true length SeveralTeams s = same_team_lengths _ _ (omega arith) (omega arith) (omega arith) (omega arith)
team_step own false length SeveralTeams s = same_team_lengths _ _ (omega arith) (omega arith) (omega arith) (omega arith)

pub team_is_counted : (place : ℕ → Option Place) (team : ℕ → ℕ) (nets : List (List NetPin)) (own : ℕ) → fold (with_pins_of_team place team own) no_team_lengths nets ≡ team_lengths place team nets own
team_is_counted place team nets own =
    let step = with_pins_of_team place team own in
    let adds = λ (s : TeamLengths) (pins : List NetPin). team_step own (joins_team place team own pins) (length_of_net place pins) (joined_teams place team pins) s in
    same_team_lengths (fold step no_team_lengths nets) (team_lengths place team nets own)
    (field_sum step (λ s. s.nets) (λ pins. cond (joins_only place team own pins) 1 0) (λ s pins. ap (λ (t : TeamLengths). t.nets) (adds s pins)) no_team_lengths nets ∙ omega arith)
    (field_sum step (λ s. s.own) (λ pins. cond (joins_only place team own pins) (length_of_net place pins) 0) (λ s pins. ap (λ (t : TeamLengths). t.own) (adds s pins)) no_team_lengths nets
    ∙ omega (arith, sum_of_passing (joins_only place team own) (length_of_net place) nets))
    (field_sum step (λ s. s.crossing_nets) (λ pins. cond (joins_with_others place team own pins) 1 0) (λ s pins. ap (λ (t : TeamLengths). t.crossing_nets) (adds s pins)) no_team_lengths nets ∙ omega arith)
    (field_sum step (λ s. s.crossing) (λ pins. cond (joins_with_others place team own pins) (length_of_net place pins) 0) (λ s pins. ap (λ (t : TeamLengths). t.crossing) (adds s pins)) no_team_lengths nets
    ∙ omega (arith, sum_of_passing (joins_with_others place team own) (length_of_net place) nets))
