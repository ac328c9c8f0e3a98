-- The cells of a team on two frames that are alike.
use Rattle.std.proofs.Common.{◌≡◌, ℕ, zero, suc, List, [], ◌∷◌, map, Option, Some, None, refl, ap}
use Rattle.std.specs.Prelude.{All, bytes_eq, is_none, option_and_then, slice_get}
use Rattle.std.specs.Option.{option_map}
use Rattle.std.specs.List.{AllZip}
use Rattle.std.proofs.lemmas.List.Elements.{All-head, All-tail}
use Rattle.lf_floorplan.specs.declared.frame.Frame.{Frame}
use Rattle.lf_floorplan.specs.declared.place.Place.{Place}
use Rattle.lf_rules.specs.Choice.{spot_of}
use Rattle.lf_cells.specs.declared.cell.Cell.{Cell}
use Rattle.lf_cells.specs.Cells.{cell_named, working_at, moved, as_committed}
use Rattle.lf_legalize.specs.Members.{IsSizedCell, member_of}
use Rattle.lf_floor_model.specs.Outcomes.{places_of}
use Rattle.lf_floor_model.specs.Changes.{restored, back_to_committed, exchanged, first_unplaced}
use Rattle.lf_laws_slices.specs.Alike.{AreCellsAlike}
use Rattle.lf_laws_slices.proofs.Zips.{OptionZip, zip_get, zip_map, zip_same, zip_position, zip_weaker, zip_all}
use Rattle.lf_laws_slices.proofs.Members.{AreMembersAlike}

-- two cells are alike, and the macro of the first is in the frame and has a whole size
pub record AreSizedAlike (f g : Frame) (c d : Cell) : Type 0 where
  pub alike : AreCellsAlike f g c d
  pub sized : IsSizedCell f c

-- the same for the cells of a team, pair by pair
abbrev pub AreAllAlike : Frame → Frame → List Cell → List Cell → Type 0
AreAllAlike f g cs ds = AllZip (AreSizedAlike f g) cs ds

module _ {A B C : Type 0} (R : A → B → Type 0) where
  -- related values give the same result, if each related pair does
  pub zip_then : (h : A → Option C) (k : B → Option C) → ((x : A) (y : B) → R x y → h x ≡ k y) → (o : Option A) (p : Option B) → OptionZip R o p
      → option_and_then h o ≡ option_and_then k p
  zip_then h k each None None z = refl
  zip_then h k each None (Some y) z = absurd z
  zip_then h k each (Some x) None z = absurd z
  zip_then h k each (Some x) (Some y) z = each x y z

  pub zip_option : (h : A → C) (k : B → C) → ((x : A) (y : B) → R x y → h x ≡ k y) → (o : Option A) (p : Option B) → OptionZip R o p
      → option_map h o ≡ option_map k p
  zip_option h k each None None z = refl
  zip_option h k each None (Some y) z = absurd z
  zip_option h k each (Some x) None z = absurd z
  zip_option h k each (Some x) (Some y) z = ap (λ (c : C). Some c) (each x y z)

module _ (f g : Frame) where
  pub all_alike : (cs ds : List Cell) → AllZip (AreCellsAlike f g) cs ds → All (λ c. IsSizedCell f c) cs → AreAllAlike f g cs ds
  all_alike [] [] z sized = tt
  all_alike [] (d ∷ ds) z sized = absurd z
  all_alike (c ∷ cs) [] z sized = absurd z
  all_alike (c ∷ cs) (d ∷ ds) z sized =
      (record { alike = z.0; sized = All-head (λ c. IsSizedCell f c) c cs sized }, all_alike cs ds z.1 (All-tail (λ c. IsSizedCell f c) c cs sized))

  pub only_alike : (cs ds : List Cell) → AreAllAlike f g cs ds → AllZip (AreCellsAlike f g) cs ds
  only_alike cs ds z = zip_weaker (AreSizedAlike f g) (AreCellsAlike f g) (λ c d r. r.alike) cs ds z

  pub only_sized : (cs ds : List Cell) → AreAllAlike f g cs ds → All (λ c. IsSizedCell f c) cs
  only_sized cs ds z = zip_all (AreSizedAlike f g) (λ c. IsSizedCell f c) (λ c d r. r.sized) cs ds z

  pub members_alike : (cs ds : List Cell) → AreAllAlike f g cs ds → AllZip (AreMembersAlike f g) (map member_of cs) (map member_of ds)
  members_alike cs ds z = zip_map (AreSizedAlike f g) (AreMembersAlike f g) member_of member_of each cs ds z where
    each : (c d : Cell) → AreSizedAlike f g c d → AreMembersAlike f g (member_of c) (member_of d)
    each c d r = record {
      place = ap (λ (o : Option Place). option_map spot_of o) r.alike.working;
      same_macro = r.alike.same_macro;
      sized = r.sized.sized;
    }

  -- ---- queries of cells

  pub named_same : (name : List ℕ) (cs ds : List Cell) → AreAllAlike f g cs ds → cell_named name cs ≡ cell_named name ds
  named_same name cs ds z =
      zip_position (AreSizedAlike f g) (λ c. bytes_eq c.name name) (λ d. bytes_eq d.name name) (λ c d r. ap (λ (n : List ℕ). bytes_eq n name) r.alike.name) cs ds z

  pub unplaced_same : (cs ds : List Cell) → AreAllAlike f g cs ds → first_unplaced cs ≡ first_unplaced ds
  unplaced_same cs ds z =
      zip_position (AreSizedAlike f g) (λ c. is_none c.working) (λ d. is_none d.working) (λ c d r. ap (λ (o : Option Place). is_none o) r.alike.working) cs ds z

  pub working_same : (cs ds : List Cell) (own : ℕ) → AreAllAlike f g cs ds → working_at cs own ≡ working_at ds own
  working_same cs ds own z =
      zip_then (AreSizedAlike f g) (λ c. c.working) (λ d. d.working) (λ c d r. r.alike.working) (slice_get cs own) (slice_get ds own) (zip_get (AreSizedAlike f g) cs ds z own)

  pub places_same : (cs ds : List Cell) → AreAllAlike f g cs ds → places_of cs ≡ places_of ds
  places_same cs ds z = zip_same (AreSizedAlike f g) (λ c. c.working) (λ d. d.working) (λ c d r. r.alike.working) cs ds z

  -- ---- changes of cells

  at_place : (c d : Cell) (p q : Option Place) → p ≡ q → AreSizedAlike f g c d → AreSizedAlike f g (record c { working = p }) (record d { working = q })
  at_place c d p q same r = record {
    alike = record { name = r.alike.name; working = same; committed = r.alike.committed; same_macro = r.alike.same_macro };
    sized = record { known = r.sized.known; sized = r.sized.sized };
  }

  pub moved_alike : (cs ds : List Cell) (own : ℕ) (p q : Option Place) → p ≡ q → AreAllAlike f g cs ds → AreAllAlike f g (moved cs own p) (moved ds own q)
  moved_alike [] [] own p q same z = tt
  moved_alike [] (d ∷ ds) own p q same z = absurd z
  moved_alike (c ∷ cs) [] own p q same z = absurd z
  moved_alike (c ∷ cs) (d ∷ ds) zero p q same z = (at_place c d p q same z.0, z.1)
  moved_alike (c ∷ cs) (d ∷ ds) (suc own) p q same z = (z.0, moved_alike cs ds own p q same z.1)

  pub restored_alike : (places : List (Option Place)) (cs ds : List Cell) → AreAllAlike f g cs ds → AreAllAlike f g (restored places cs) (restored places ds)
  restored_alike [] cs ds z = z
  restored_alike (p ∷ places) [] [] z = tt
  restored_alike (p ∷ places) [] (d ∷ ds) z = absurd z
  restored_alike (p ∷ places) (c ∷ cs) [] z = absurd z
  restored_alike (p ∷ places) (c ∷ cs) (d ∷ ds) z = (at_place c d p p refl z.0, restored_alike places cs ds z.1)

  pub exchanged_alike : (cs ds : List Cell) (first second : ℕ) → AreAllAlike f g cs ds → AreAllAlike f g (exchanged cs first second) (exchanged ds first second)
  exchanged_alike cs ds first second z =
      moved_alike (moved cs first (working_at cs second)) (moved ds first (working_at ds second)) second (working_at cs first) (working_at ds first)
      (working_same cs ds first z) (moved_alike cs ds first (working_at cs second) (working_at ds second) (working_same cs ds second z) z)

  pub committed_alike : (cs ds : List Cell) → AreAllAlike f g cs ds → AreAllAlike f g (map as_committed cs) (map as_committed ds)
  committed_alike cs ds z = zip_map (AreSizedAlike f g) (AreSizedAlike f g) as_committed as_committed each cs ds z where
    each : (c d : Cell) → AreSizedAlike f g c d → AreSizedAlike f g (as_committed c) (as_committed d)
    each c d r = record {
      alike = record { name = r.alike.name; working = r.alike.working; committed = r.alike.working; same_macro = r.alike.same_macro };
      sized = record { known = r.sized.known; sized = r.sized.sized };
    }

  pub back_alike : (cs ds : List Cell) → AreAllAlike f g cs ds → AreAllAlike f g (map back_to_committed cs) (map back_to_committed ds)
  back_alike cs ds z =
      zip_map (AreSizedAlike f g) (AreSizedAlike f g) back_to_committed back_to_committed (λ c d r. at_place c d c.committed d.committed r.alike.committed r) cs ds z
