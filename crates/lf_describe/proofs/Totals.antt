-- The program's counts agree with the report.
use Rattle.std.proofs.Common.{◌≡◌, ℕ, suc, ◌+◌, Bool, List, [], ◌∷◌, ◌++◌, length, map, Option, Some, Result, refl, sym, ◌∙◌, ap, subst, arith, slice_get}
use Rattle.std.specs.Prelude.{flat_map, count_by, is_none, is_some, ◌↔◌, IfOk, IsTrue, OnErr, OnOk}
use Rattle.std.specs.List.{enumerate_from}
use Rattle.std.proofs.lemmas.Grind.{flat_map-append}
use Rattle.serde_json.specs.Data.{Data}
use Rattle.lf_floorplan.specs.declared.frame.Frame.{Frame}
use Rattle.lf_rules.specs.declared.rule.Broken.{Broken}
use Rattle.lf_rules.specs.declared.report_types.Listed.{Listed}
use Rattle.lf_rules.specs.declared.report_types.Report.{Report}
use Rattle.lf_rules.specs.Legalizer.{Legalizer}
use Rattle.lf_rules.specs.Reports.{IsClean}
use Rattle.lf_reports.specs.Reports.{AreVerdicts, report_of, verdict_at, violations_in}
use Rattle.lf_reports.proofs.LegalVerdicts.{illegal_are}
use Rattle.std.specs.Io.KnownBytes.{Appends}
use Rattle.lf_describe.specs.Written.{AppendsFront}
use Rattle.lf_describe.specs.declared.described.DescribedDesign.{DescribedDesign}
use Rattle.lf_describe.specs.declared.line_kinds.TheConstants.{PARTS}
use Rattle.lf_describe.specs.Description.{cell_data, cell_lines, density_data, design_data, fence_data, line_text, described_lines, lines_text, obstacle_lines, row_data, soft_data, total_data}
use Rattle.lf_describe.specs.Parts.{Counts, described_cells, fixed_component_names, part_lines, part_text, parts_text}

-- ---- lines

each_same : {X Y : Type 0} (g h : ℕ × X → Y) (n : ℕ) (xs : List X) → ((k : ℕ) (x : X) → slice_get xs k ≡ Some x → g (n + k, x) ≡ h (n + k, x)) →
    map g (enumerate_from n xs) ≡ map h (enumerate_from n xs)
each_same g h n [] same = refl
each_same {X = X} {Y = Y} g h n (x ∷ xs) same =
    let here : g (n, x) ≡ h (n, x) = subst (λ (m : ℕ). g (m, x) ≡ h (m, x)) (omega arith) (same 0 x refl) in
    let rest = each_same g h (n + 1) xs (λ k y at. subst (λ (m : ℕ). g (m, y) ≡ h (m, y)) (omega arith) (same (suc k) y at)) in
    ap (λ (y : Y). y ∷ map g (enumerate_from (n + 1) xs)) here ∙ ap (λ (ys : List Y). h (n, x) ∷ ys) rest

-- The lines of the cells by their verdicts are the lines by the rules.
pub cells_are : (l : Legalizer) (f : Frame) (cells : List (Listed (List ℕ))) (verdicts : List (Option Broken)) → AreVerdicts l f 0 cells verdicts →
    map (λ e. cell_data f cells e.1 (verdict_at verdicts e.0)) (enumerate_from 0 cells) ≡ cell_lines l f cells
cells_are l f cells verdicts are =
    each_same _ _ 0 cells (λ k c there. ap (λ (b : Option Broken). cell_data f cells c b) (are.each (0 + k) c (subst (λ (n : ℕ). slice_get cells n ≡ Some c) (omega arith) there)))

fused : {X Y A : Type 0} (g : Y → List A) (h : X → List Y) (xs : List X) → flat_map (λ x. flat_map g (h x)) xs ≡ flat_map g (flat_map h xs)
fused g h [] = refl
fused {A = A} g h (x ∷ xs) = ap (λ (l : List A). flat_map g (h x) ++ l) (fused g h xs) ∙ sym (flat_map-append g (h x) (flat_map h xs))

pub text_of_parts : (reported : DescribedDesign) → flat_map (part_text reported) PARTS ≡ parts_text reported
unfolding parts_text
text_of_parts reported = refl

-- The text of all parts is the text of all lines.
pub parts_are : (l : Legalizer) (reported : DescribedDesign) → AreVerdicts l reported.frame.now 0 (described_cells reported) reported.verdicts.now →
    parts_text reported ≡ lines_text l reported.density reported.frame.now (fixed_component_names reported) (described_cells reported)
unfolding parts_text lines_text
parts_are l reported are = fused line_text (part_lines reported) PARTS ∙ ap (flat_map line_text) (lines (cells_are l f cells verdicts are) (illegal_are l f cells verdicts are))
  where
    f : Frame
    f = reported.frame.now

    cells : List (Listed (List ℕ))
    cells = described_cells reported

    verdicts : List (Option Broken)
    verdicts = reported.verdicts.now

    all : List Data → ℕ → List Data
    all reported_cells illegal =
        design_data f ∷ (map (row_data f) f.rows ++ (map fence_data f.teams ++ (obstacle_lines (fixed_component_names reported) f.obstacles ++ (map soft_data f.soft
        ++ (reported_cells ++ density_data reported.density ∷ total_data f (length cells) illegal (count_by (λ c. is_none c.place) cells) ∷ [])))))

    lines : map (λ e. cell_data f cells e.1 (verdict_at verdicts e.0)) (enumerate_from 0 cells) ≡ cell_lines l f cells →
        count_by is_some verdicts ≡ length (violations_in l f 0 cells) → flat_map (part_lines reported) PARTS ≡ described_lines l reported.density f (fixed_component_names reported) cells
    lines same_cells same_count = ap (λ (cs : List Data). all cs (count_by is_some verdicts)) same_cells ∙ ap (all (cell_lines l f cells)) same_count

-- The counts are those of the report.
pub counts_are : (l : Legalizer) (reported : DescribedDesign) → AreVerdicts l reported.frame.now 0 (described_cells reported) reported.verdicts.now → Counts reported (report_of l reported.frame.now 0 (described_cells reported))
counts_are l reported are = record { illegal = illegal_are l reported.frame.now (described_cells reported) reported.verdicts.now are; unplaced = refl }

-- ---- what was written

pub text_is : {T E : Type 0} (reported : DescribedDesign) (l : Legalizer) (r : Result T E) (a b : Option (List ℕ)) → OnOk r (Appends a b (parts_text reported)) →
    AreVerdicts l reported.frame.now 0 (described_cells reported) reported.verdicts.now → OnOk r (Appends a b (lines_text l reported.density reported.frame.now (fixed_component_names reported) (described_cells reported)))
text_is reported l r a b written are = subst (λ (t : List ℕ). OnOk r (Appends a b t)) (parts_are l reported are) written

pub cut_is : {T E : Type 0} (reported : DescribedDesign) (l : Legalizer) (r : Result T E) (a b : Option (List ℕ)) → OnErr r (AppendsFront a b (parts_text reported)) →
    AreVerdicts l reported.frame.now 0 (described_cells reported) reported.verdicts.now → OnErr r (AppendsFront a b (lines_text l reported.density reported.frame.now (fixed_component_names reported) (described_cells reported)))
cut_is reported l r a b written are = subst (λ (t : List ℕ). OnErr r (AppendsFront a b t)) (parts_are l reported are) written

pub clean_is : {E : Type 0} (reported : DescribedDesign) (l : Legalizer) (r : Result Bool E) →
    ((report : Report) → Counts reported report → IfOk r (λ clean. IsTrue clean ↔ IsClean report)) →
    AreVerdicts l reported.frame.now 0 (described_cells reported) reported.verdicts.now → IfOk r (λ clean. IsTrue clean ↔ IsClean (report_of l reported.frame.now 0 (described_cells reported)))
clean_is reported l r said are = said (report_of l reported.frame.now 0 (described_cells reported)) (counts_are l reported are)
