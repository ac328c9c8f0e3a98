-- The parts of a loaded design that belong to a team are spelled as in a text.
use Rattle.std.proofs.Common.{◌≡◌, ◌≢◌, ℕ, ◌+◌, ◌<◌, inl, inr, List, [], ◌∷◌, All, map, length, get_or, Option, Some, None, refl, ap, sym, ◌∙◌, subst, arith}
use Rattle.std.specs.Prelude.{codes, IfSome, Contains, slice_get, option_map, unwrap_or, Any}
use Rattle.std.specs.List.{AllZip, enumerate_from}
use Rattle.std.proofs.lemmas.List.{length-map}
use Rattle.std.proofs.lemmas.List.Elements.{All-nil, All-cons, All-head, All-tail, All-map, All-filter}
use Rattle.std.proofs.lemmas.Option.{get_or_from_slice_get, slice_get_within, slice_get-map}
use Rattle.lf_names.specs.Names.{position_of}
use Rattle.lf_names.proofs.Positions.{is_found_there}
use Rattle.lf_lef.specs.Contents.{macro_names}
use Rattle.lf_def.specs.declared.regions.Region.{Region}
use Rattle.lf_def.specs.declared.groups.Group.{Group}
use Rattle.lf_def.specs.declared.components.Component.{Component}
use Rattle.lf_floorplan.specs.declared.frame.Frame.{Frame}
use Rattle.lf_floorplan.specs.declared.macros.Macro.{Macro}
use Rattle.lf_floorplan.specs.declared.parts.Header.{Header}
use Rattle.lf_floorplan.specs.declared.parts.Team.{Team}
use Rattle.lf_floorplan.specs.declared.loaded.LoadedCell.{LoadedCell}
use Rattle.lf_floorplan.specs.declared.loaded.Loaded.{Loaded}
use Rattle.lf_floorplan.specs.Boxes.{macro_of, no_macro}
use Rattle.lf_cells.specs.declared.cell.Cell.{Cell}
use Rattle.lf_def.specs.Kinds.{is_fence, is_movable}
use Rattle.lf_frame.specs.Teams.{fences, fence_names, Claims, IsTeamOfComponent}
use Rattle.lf_frame.specs.Findings.{LoadInputs}
use Rattle.lf_frame.specs.Loads.{frame_team, header_in, movables, IsFrameOf, IsCellOf, IsLoadedFrom}
use Rattle.lf_laws_roundtrip.specs.Spelled.{IsSpelledName, IsSpelledHeader, IsSpelledCell, CanBeBound, IsSpelledTeam}
use Rattle.lf_laws_roundtrip.specs.ReadDocuments.{IsSpelledComponent, IsBindable, IsSpelledDocument}
use Rattle.lf_laws_roundtrip.specs.LoadedTeams.{IsCellOfTeam, AreTeamCells, LoadedTeamsReadBack}
use Rattle.lf_laws_roundtrip.proofs.ReadNames.{read_is_spelled}
use Rattle.lf_laws_roundtrip.proofs.TeamParts.{team_reads_back}

-- Lists.

zip_all : {A B : Type 0} (R : A → B → Type 0) (Q : A → Type 0) (F : B → Type 0) → ((x : A) (y : B) → Q x → R x y → F y) → (xs : List A) (ys : List B) → All Q xs
    → AllZip R xs ys → All F ys
zip_all R Q F made [] [] all zip = All-nil F
zip_all R Q F made [] (y ∷ ys) all zip = absurd zip
zip_all R Q F made (x ∷ xs) [] all zip = absurd zip
zip_all R Q F made (x ∷ xs) (y ∷ ys) all zip =
    All-cons F y ys (made x y (All-head Q x xs all) zip.0) (zip_all R Q F made xs ys (All-tail Q x xs all) zip.1)

numbered_all : {A : Type 0} (P : A → Type 0) (n : ℕ) (xs : List A) → All P xs → All (λ e. P e.1) (enumerate_from n xs)
numbered_all P n [] all = All-nil (λ e. P e.1)
numbered_all P n (x ∷ xs) all =
    All-cons (λ e. P e.1) (n, x) (enumerate_from (n + 1) xs) (All-head P x xs all) (numbered_all P (n + 1) xs (All-tail P x xs all))

at_place : {X : Type 0} (P : X → Type 0) (xs : List X) (n : ℕ) (x : X) → All P xs → slice_get xs n ≡ Some x → P x
at_place P xs n x all is = subst P (get_or_from_slice_get xs n x x is) (all n x (slice_get_within xs n x is))

-- A cell's macro.

macro_named : (f : Frame) (macros : List Macro) (name : List ℕ) (n : ℕ) → f.macros ≡ macros → position_of (macro_names macros) name ≡ Some n
    → (macro_of f n).name ≡ name
macro_named f macros name n same at =
    let there : option_map (λ (m : Macro). m.name) (slice_get f.macros n) ≡ Some name =
    sym (slice_get-map (λ (m : Macro). m.name) f.macros n) ∙ ap (λ (ms : List Macro). slice_get (macro_names ms) n) same
    ∙ is_found_there (macro_names macros) name n at in
    by (slice_get f.macros n) there
  where
    by : (o : Option Macro) → option_map (λ (m : Macro). m.name) o ≡ Some name → (unwrap_or o no_macro).name ≡ name
    by None e = absurd cc
    by (Some m) e = cc

-- A team's name.

-- A fence that claims a component is not named by a parenthesis.
not_parenthesis : (regions : List Region) (groups : List Group) (name fence : List ℕ) → All IsBindable groups → Any (λ g. Claims regions g name fence) groups
    → fence ≢ codes "("
not_parenthesis regions groups name fence all (k, g, within, is, claims) e =
    let bindable : IsBindable g = subst IsBindable is (all k g within) in
    let other : IfSome (Some fence) (λ n. n ≢ codes "(") = subst (λ o. IfSome o (λ n. n ≢ codes "(")) claims.bound bindable in
    other e

-- The fence with a number, in the document and in the frame.
same_fence : (regions : List Region) (f : Frame) (number : ℕ) (t : Team) (fence : List ℕ) → f.teams ≡ map frame_team (fences regions)
    → slice_get f.teams number ≡ Some t
    → slice_get (fence_names regions) number ≡ Some fence → t.name ≡ fence
same_fence regions f number t fence teams there named =
    let one : option_map frame_team (slice_get (fences regions) number) ≡ Some t =
    sym (slice_get-map frame_team (fences regions) number) ∙ ap (λ (ts : List Team). slice_get ts number) (sym teams) ∙ there in
    let other : option_map (λ (r : Region). r.name) (slice_get (fences regions) number) ≡ Some fence =
    sym (slice_get-map (λ (r : Region). r.name) (fences regions) number) ∙ named in
    by (slice_get (fences regions) number) one other
  where
    by : (o : Option Region) → option_map frame_team o ≡ Some t → option_map (λ (r : Region). r.name) o ≡ Some fence → t.name ≡ fence
    by None e h = absurd cc
    by (Some r) e h = let is : frame_team r ≡ t = cc in let also : r.name ≡ fence = cc in sym (ap (λ (x : Team). x.name) is) ∙ also

team_name : (i : LoadInputs) (f : Frame) (name : List ℕ) (number : ℕ) (t : Team) → IsFrameOf i f → All IsBindable i.document.groups
    → IsTeamOfComponent i.document.regions i.document.groups name number → slice_get f.teams number ≡ Some t → t.name ≢ codes "("
team_name i f name number t is bindable (inl one) there e =
    let fence : t.name ≡ one.fence =
    same_fence i.document.regions f number t one.fence is.teams there (is_found_there (fence_names i.document.regions) one.fence number one.place) in
    not_parenthesis i.document.regions i.document.groups name one.fence bindable one.claimed (sym fence ∙ e)
team_name i f name number t is bindable (inr ground) there e =
    let within : number < length f.teams = slice_get_within f.teams number t there in
    let many : length f.teams ≡ length (fences i.document.regions) = ap (λ (ts : List Team). length ts) is.teams
    ∙ length-map (fences i.document.regions) frame_team in
    absurd (omega (arith, ground.1))

-- Cells.

record IsSpelledLoaded (f : Frame) (c : LoadedCell) : Type 0 where
  name_spelled : IsSpelledName c.name
  mac_spelled : IsSpelledName (macro_of f c.mac).name
  team_bindable : (t : Team) → slice_get f.teams c.team ≡ Some t → t.name ≢ codes "("

spelled_cell : (i : LoadInputs) (f : Frame) → IsFrameOf i f → All IsBindable i.document.groups → (entry : ℕ × Component) (c : LoadedCell)
    → IsSpelledComponent entry.1
    → IsCellOf i entry c → IsSpelledLoaded f c
spelled_cell i f is bindable entry c spelled of = record {
  name_spelled = subst IsSpelledName (sym of.name) spelled.name_spelled;
  mac_spelled = subst IsSpelledName (sym (macro_named f i.library.macros entry.1.mac c.mac is.macros of.mac)) spelled.mac_spelled;
  team_bindable = λ t there. team_name i f entry.1.name c.team t is bindable of.team there;
}

spelled_cells : (i : LoadInputs) (l : Loaded) → IsLoadedFrom i l → IsSpelledDocument i.document → All (IsSpelledLoaded l.frame) l.cells
spelled_cells i l from spelled =
    zip_all (IsCellOf i) (λ e. IsSpelledComponent e.1) (IsSpelledLoaded l.frame) (spelled_cell i l.frame from.frame spelled.groups)
    (movables i.document.components) l.cells
    (All-filter (λ e. is_movable e.1) (λ e. IsSpelledComponent e.1) (enumerate_from 0 i.document.components)
    (numbered_all IsSpelledComponent 0 i.document.components spelled.components))
    from.cells

contained : {X : Type 0} (P : X → Type 0) (xs : List X) (x : X) → All P xs → Contains xs x → P x
contained P xs x all (k, within, is) = subst P is (all k x within)

header_spelled : (i : LoadInputs) (h : Header) → h ≡ header_in i → IsSpelledDocument i.document → IsSpelledHeader h
header_spelled i h is spelled =
    subst IsSpelledHeader (sym is) (record { version = spelled.version; divider = spelled.divider; brackets = spelled.brackets; design = spelled.design })

team_names : (i : LoadInputs) (f : Frame) → IsFrameOf i f → IsSpelledDocument i.document → All (λ t. IsSpelledName t.name) f.teams
team_names i f is spelled =
    subst (λ ts. All (λ (t : Team). IsSpelledName t.name) ts) (sym is.teams)
    (All-map (λ (t : Team). IsSpelledName t.name) frame_team (fences i.document.regions)
    (All-filter is_fence (λ (r : Region). IsSpelledName r.name) i.document.regions spelled.regions))

spelled_team : (i : LoadInputs) (l : Loaded) → IsLoadedFrom i l → IsSpelledDocument i.document → (number : ℕ) (cells : List Cell) → AreTeamCells l number cells
    → IsSpelledTeam l.frame number cells
spelled_team i l from spelled number cells are = record {
  header = header_spelled i l.frame.header from.frame.header spelled;
  fence = by (slice_get l.frame.teams number) refl;
  few = are.few;
  each = λ k d within. one (get_or cells k d) (are.own k d within);
}
  where
    known : (c : Cell) (own : IsCellOfTeam l number c) → IsSpelledLoaded l.frame own.loaded
    known c own = contained (IsSpelledLoaded l.frame) l.cells own.loaded (spelled_cells i l from spelled) own.there

    one : (c : Cell) → IsCellOfTeam l number c → IsSpelledCell l.frame c
    one c own = record {
      name = subst IsSpelledName (sym own.name) (known c own).name_spelled;
      mac = subst (λ (n : ℕ). IsSpelledName (macro_of l.frame n).name) (sym own.mac) (known c own).mac_spelled;
      place = own.place;
    }

    bound : (t : Team) → slice_get l.frame.teams number ≡ Some t → (c : Cell) → IsCellOfTeam l number c → t.name ≢ codes "("
    bound t there c own = (known c own).team_bindable t (ap (λ (n : ℕ). slice_get l.frame.teams n) own.own ∙ there)

    by : (o : Option Team) → slice_get l.frame.teams number ≡ o → IfSome o (λ t. IsSpelledName t.name × CanBeBound t.name cells)
    by None there = tt
    by (Some t) there = (
      at_place (λ (x : Team). IsSpelledName x.name) l.frame.teams number t (team_names i l.frame from.frame spelled) there,
      record {
        patterns = are.no_plus (rw there refl);
        region = λ k d within. bound t there (get_or cells k d) (are.own k d within);
      },
    )

pub loaded_read_back : LoadedTeamsReadBack
loaded_read_back text i read l from number cells are =
    team_reads_back l.frame number cells (spelled_team i l from (read_is_spelled text i.document read) number cells are)
