-- A report as JSON.
use Rattle.std.specs.Prelude.{ℕ, Bool, List, ◌++◌, map, Option, Some, None, codes, decimal, option_and_then, option_map, slice_get}
use Rattle.serde_json.specs.Data.{Data, Items, number, unsigned, string, array, object, member, no_members}
use Rattle.serde_json.specs.View.{items_of}
use Rattle.serde_json.specs.Written.{compact_text, items_text}
use Rattle.lf_rules.specs.declared.rule.Broken.{Broken}
use Rattle.lf_rules.specs.declared.rule.Rule.{Rule}
use Rattle.lf_rules.specs.declared.report_types.Violation.{Violation}
use Rattle.lf_rules.specs.declared.report_types.Report.{Report}
use Rattle.lf_rules.specs.Legality.{number_of}

-- the violation of a cell of that name that breaks this rule first; for Overlap with the name of
-- the other cell
abbrev pub violation_named : List (List ℕ) → Broken → List ℕ → Violation
violation_named names b name = record { cell = name; rule = b.rule; other = option_and_then (slice_get names) b.other }

-- the violation of the cell at that position, which breaks this rule first; None if there is no
-- such cell
abbrev pub violation_in : List (List ℕ) → ℕ → Broken → Option Violation
violation_in names own b = option_map (violation_named names b) (slice_get names own)

-- the cell, the other cell if there is one, and the number of the rule
abbrev pub violation_object : List ℕ → Option (List ℕ) → Rule → Data
violation_object cell None rule =
    object (member (codes "cell") (string cell) (member (codes "rule") (number (unsigned (number_of rule))) no_members))
violation_object cell (Some other) rule =
    object (member (codes "cell") (string cell)
    (member (codes "other") (string other) (member (codes "rule") (number (unsigned (number_of rule))) no_members)))

-- a violation
abbrev pub violation_data : Violation → Data
violation_data v = violation_object v.cell v.other v.rule

-- a report: the number of cells, the number of unplaced cells, and the violations
abbrev pub report_by : ℕ → ℕ → Items → Data
report_by cells unplaced violations =
    object (member (codes "cells") (number (unsigned cells)) (member (codes "unplaced") (number (unsigned unplaced))
    (member (codes "violations") (array violations) no_members)))

abbrev pub report_data : Report → Data
report_data r = report_by r.cells r.unplaced (items_of (map violation_data r.violations))

-- the text up to the first violation
abbrev pub report_front : ℕ → ℕ → List ℕ
report_front cells unplaced = codes "{\"cells\":"
    ++ (decimal cells ++ (codes ",\"unplaced\":" ++ (decimal unplaced ++ codes ",\"violations\":[")))

-- the text of these violations, with a comma in front if there are earlier ones, and the bracket
-- that closes their list
abbrev pub violations_text : Bool → List Violation → List ℕ
violations_text later violations = items_text later (items_of (map violation_data violations))

-- the text of a report: JSON without spaces
unfoldable pub report_text : Report → List ℕ
report_text r = compact_text (report_data r)
