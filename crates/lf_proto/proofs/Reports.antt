-- A report's text in pieces.
use Rattle.std.proofs.Common.{◌≡◌, ℕ, false, List, [], ◌∷◌, ◌++◌, Option, Some, None, refl, sym, ap, subst, ◌∙◌, append_assoc, length, take, ◌-◌, arith}
use Rattle.std.specs.Prelude.{All, codes, decimal, map, option_and_then, option_map, slice_get}
use Rattle.std.specs.Option.{ForSome}
use Rattle.std.proofs.lemmas.Option.{get_or_from_slice_get, slice_get_within}
use Rattle.std.proofs.Math.Seq.{take-append_seam}
use Rattle.std.proofs.lemmas.List.{length-append}
use Rattle.serde_json.proofs.OnLiterals.{serde_json_on_literals}
use Rattle.serde_json.specs.Data.{Items, no_items}
use Rattle.serde_json.specs.Written.{has_float, compact_text, items_text}
use Rattle.lf_floorplan.specs.Bounds.{IsDesignName}
use Rattle.lf_rules.specs.declared.rule.Broken.{Broken}
use Rattle.lf_rules.specs.declared.rule.Rule.{Rule}
use Rattle.lf_rules.specs.Reports.{HasPrintableNames}
use Rattle.lf_proto.specs.ReportText.{violation_object, violation_data, violation_in, violation_named, report_by, report_front, report_text}
use Rattle.lf_rules.specs.declared.report_types.Report.{Report}
use Rattle.lf_rules.specs.declared.report_types.Violation.{Violation}
use Rattle.serde_json.specs.View.{items_of}

-- a violation has no number with a fraction
pub no_float : (cell : List ℕ) (other : Option (List ℕ)) (rule : Rule) → has_float (violation_object cell other rule) ≡ false
no_float cell None rule = refl
no_float cell (Some other) rule = refl

-- the front, the violations and the last bracket
pub closes : (cells unplaced : ℕ) (violations : Items) → compact_text (report_by cells unplaced violations) ≡ report_front cells unplaced ++ (items_text false violations ++ 125 ∷ [])
unfolding serde_json_on_literals
closes cells unplaced violations =
    let rest = items_text false violations ++ 125 ∷ [] in
    sym (ap (λ l. codes "{\"cells\":" ++ l) (append_assoc (decimal cells) (codes ",\"unplaced\":" ++ (decimal unplaced ++ codes ",\"violations\":[")) rest
    ∙ ap (λ l. decimal cells ++ (codes ",\"unplaced\":" ++ l)) (append_assoc (decimal unplaced) (codes ",\"violations\":[") rest)))

-- the text without violations, except the closing brackets
pub without_brackets : (text : List ℕ) (many cells unplaced : ℕ) → many ≡ length text → text ≡ compact_text (report_by cells unplaced no_items) → take (many - 2) text ≡ report_front cells unplaced
without_brackets text many cells unplaced counted is =
    let front = report_front cells unplaced in
    let whole : text ≡ front ++ (93 ∷ 125 ∷ []) = is ∙ closes cells unplaced no_items in
    let front_is : many - 2 ≡ length front = omega (arith, counted, ap length whole, length-append front (93 ∷ 125 ∷ [])) in
    ap (λ n. take n text) front_is ∙ (ap (take (length front)) whole ∙ take-append_seam front (93 ∷ 125 ∷ []))

-- the text of a report, written in three parts
pub in_parts : (r : Report) (violations : List Violation) (front listed text : List ℕ) → violations ≡ r.violations → front ≡ report_front r.cells r.unplaced
    → listed ≡ front ++ items_text false (items_of (map violation_data violations)) → text ≡ listed ++ 125 ∷ [] → text ≡ report_text r
unfolding report_text
in_parts r violations front listed text same first then last =
    let text_of = λ (vs : List Violation). items_text false (items_of (map violation_data vs)) in
    let parts : listed ≡ report_front r.cells r.unplaced ++ text_of r.violations = then ∙ (ap (λ l. l ++ text_of violations) first ∙ ap (λ vs. report_front r.cells r.unplaced ++ text_of vs) same) in
    last ∙ (ap (λ l. l ++ 125 ∷ []) parts ∙ (append_assoc (report_front r.cells r.unplaced) (text_of r.violations) (125 ∷ []) ∙ sym (closes r.cells r.unplaced (items_of (map violation_data r.violations)))))

-- ---- names

name_printed : (names : List (List ℕ)) (own : ℕ) (name : List ℕ) → All IsDesignName names → slice_get names own ≡ Some name → IsDesignName name
name_printed names own name printed there =
    subst IsDesignName (get_or_from_slice_get names own name name there) (printed own name (slice_get_within names own name there))

other_printed : (names : List (List ℕ)) (other : Option ℕ) → All IsDesignName names → ForSome (option_and_then (slice_get names) other) IsDesignName
other_printed names None printed = λ name e. absurd cc
other_printed names (Some own) printed = λ name e. name_printed names own name printed e

-- the names in a violation are names of a text
pub names_reported : (names : List (List ℕ)) (own : ℕ) (verdict : Option Broken) (v : Violation) → All IsDesignName names →
    Some v ≡ option_and_then (violation_in names own) verdict → HasPrintableNames v
names_reported names own verdict v printed is = go verdict is
  where
    named : (b : Broken) (o : Option (List ℕ)) → slice_get names own ≡ o → Some v ≡ option_map (violation_named names b) o → HasPrintableNames v
    named b None at e = absurd cc
    named b (Some name) at e =
        let same : violation_named names b name ≡ v = cc in
        subst HasPrintableNames same (record { cell_printed = name_printed names own name printed at; other_printed = other_printed names b.other printed })

    go : (o : Option Broken) → Some v ≡ option_and_then (violation_in names own) o → HasPrintableNames v
    go None e = absurd cc
    go (Some b) e = named b (slice_get names own) refl e
