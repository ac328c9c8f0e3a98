-- The DEF text of a team: the header, the team's fence, its cells at their working places, and the
-- group that binds them to the fence (LEF/DEF 5.8, DEF REGIONS, COMPONENTS and GROUPS).
use Rattle.std.specs.Prelude.{ℕ, List, [], ◌∷◌, ◌++◌, length, map, Option, Some, None, codes, decimal, slice_get}
use Rattle.std.specs.List.{flat_map}
use Rattle.std.specs.Fmt.{signed_decimal}
use Rattle.lf_units.specs.declared.geometry.Rect.{Rect}
use Rattle.lf_lex.specs.Splices.{joined_words}
use Rattle.lf_floorplan.specs.declared.frame.Frame.{Frame}
use Rattle.lf_floorplan.specs.declared.parts.Header.{Header}
use Rattle.lf_floorplan.specs.declared.parts.Team.{Team}
use Rattle.lf_floorplan.specs.Boxes.{macro_of}
use Rattle.lf_cells.specs.declared.cell.Cell.{Cell}
use Rattle.lf_team_def.specs.Clauses.{clause_words}

-- Lines.

-- Words with one space between each two, and a line feed.
abbrev pub words_line : List (List ℕ) → List ℕ
words_line words = joined_words words ++ 10 ∷ []

-- KEYWORD count ; then one entry a line, and END KEYWORD.
abbrev pub section_lines : List ℕ → List (List (List ℕ)) → List (List (List ℕ))
section_lines keyword entries =
    (keyword ∷ decimal (length entries) ∷ codes ";" ∷ []) ∷ (entries ++ (codes "END" ∷ keyword ∷ []) ∷ [])

-- The contents of the lines.

-- The statements of the header.
abbrev pub header_lines : Header → List (List (List ℕ))
header_lines h =
    (codes "VERSION" ∷ h.version ∷ codes ";" ∷ [])
    ∷ (codes "DIVIDERCHAR" ∷ h.divider ∷ codes ";" ∷ [])
    ∷ (codes "BUSBITCHARS" ∷ h.brackets ∷ codes ";" ∷ [])
    ∷ (codes "DESIGN" ∷ h.design ∷ codes ";" ∷ [])
    ∷ (codes "UNITS" ∷ codes "DISTANCE" ∷ codes "MICRONS" ∷ decimal h.units ∷ codes ";" ∷ [])
    ∷ []

-- ( x1 y1 ) ( x2 y2 ): the lower left corner, then the upper right one.
abbrev pub team_rect_words : Rect → List (List ℕ)
team_rect_words r =
    codes "(" ∷ signed_decimal r.x1 ∷ signed_decimal r.y1 ∷ codes ")" ∷ codes "(" ∷ signed_decimal r.x2
    ∷ signed_decimal r.y2 ∷ codes ")" ∷ []

-- - name pt pt {pt pt} + TYPE FENCE ;
abbrev pub team_region_words : Team → List (List ℕ)
team_region_words t =
    codes "-" ∷ t.name ∷ (flat_map team_rect_words t.rects ++ codes "+" ∷ codes "TYPE" ∷ codes "FENCE" ∷ codes ";" ∷ [])

-- - name macro + PLACED pt orient ; or - name macro + UNPLACED ;
abbrev pub team_component_words : Frame → Cell → List (List ℕ)
team_component_words f c = codes "-" ∷ c.name ∷ (macro_of f c.mac).name ∷ (clause_words c.working ++ codes ";" ∷ [])

-- - name {cell} + REGION name ;
abbrev pub team_group_words : Team → List Cell → List (List ℕ)
team_group_words t cells =
    codes "-" ∷ t.name ∷ (map (λ c. c.name) cells ++ codes "+" ∷ codes "REGION" ∷ t.name ∷ codes ";" ∷ [])

-- The text.

-- The REGIONS section with the team's fence. The ground team has none.
abbrev pub region_lines : Option Team → List (List (List ℕ))
region_lines None = []
region_lines (Some t) = section_lines (codes "REGIONS") (team_region_words t ∷ [])

-- The GROUPS section that binds the cells to the team's fence. The ground team and a team without
-- cells have none.
abbrev pub group_lines : Option Team → List Cell → List (List (List ℕ))
group_lines None cells = []
group_lines (Some t) [] = []
group_lines (Some t) (c ∷ cs) = section_lines (codes "GROUPS") (team_group_words t (c ∷ cs) ∷ [])

-- The lines of the team's text. Its fence is the one with its number in the frame, and its cells
-- are in loading order.
abbrev pub team_lines : Frame → Option Team → List Cell → List (List (List ℕ))
team_lines f fence cells =
    header_lines f.header
    ++ (region_lines fence
    ++ (section_lines (codes "COMPONENTS") (map (team_component_words f) cells)
    ++ (group_lines fence cells
    ++ (codes "END" ∷ codes "DESIGN" ∷ []) ∷ [])))

-- The DEF text of the team with this number with these cells, at their working places.
unfoldable pub team_text : Frame → ℕ → List Cell → List ℕ
team_text f number cells = flat_map words_line (team_lines f (slice_get f.teams number) cells)
