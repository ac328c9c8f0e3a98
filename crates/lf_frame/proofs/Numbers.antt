-- Refusals in the order of their numbers.
use Rattle.std.proofs.Common.{◌≡◌, ℕ, ◌<◌, None, [], ◌∷◌, get_or, refl, sym, ap, ◌∙◌}
use Rattle.lf_lex.specs.declared.fault.FaultNumber.{FaultNumber}
use Rattle.lf_lex.specs.declared.fault.FaultNumber.TheVariants.{BadToken, UnexpectedEnd, Unexpected, BadNumber, WrongEnd, UnknownStatement, NoUnits, NoSite, NoRows, VerticalRow, BadStep, RowOrient, RowsOverlap, NoMacro, NoSize, NotWhole, SecondName, SecondRegion, NoRegion, TeamName, FencesOverlap, TwoFences, TooMany, OutOfMemory}
use Rattle.lf_frame.specs.Findings.{LoadInputs, Finds, finding_number}

abbrev numbered : ℕ → FaultNumber
numbered n = get_or (OutOfMemory ∷ BadToken ∷ UnexpectedEnd ∷ Unexpected ∷ BadNumber ∷ WrongEnd ∷ UnknownStatement ∷ NoUnits ∷ NoSite ∷ NoRows ∷ VerticalRow ∷ BadStep ∷ RowOrient ∷ RowsOverlap ∷ NoMacro ∷ NoSize ∷ NotWhole ∷ SecondName ∷ SecondRegion ∷ NoRegion ∷ TeamName ∷ FencesOverlap ∷ TwoFences ∷ TooMany ∷ OutOfMemory ∷ []) n OutOfMemory

number_back : (n : FaultNumber) → numbered (finding_number n) ≡ n
number_back BadToken = refl
number_back UnexpectedEnd = refl
number_back Unexpected = refl
number_back BadNumber = refl
number_back WrongEnd = refl
number_back UnknownStatement = refl
number_back NoUnits = refl
number_back NoSite = refl
number_back NoRows = refl
number_back VerticalRow = refl
number_back BadStep = refl
number_back RowOrient = refl
number_back RowsOverlap = refl
number_back NoMacro = refl
number_back NoSize = refl
number_back NotWhole = refl
number_back SecondName = refl
number_back SecondRegion = refl
number_back NoRegion = refl
number_back TeamName = refl
number_back FencesOverlap = refl
number_back TwoFences = refl
number_back TooMany = refl
number_back OutOfMemory = refl

one_number : (m n : FaultNumber) → finding_number m ≡ finding_number n → m ≡ n
one_number m n same = sym (number_back m) ∙ ap numbered same ∙ number_back n

-- Holds if no refusal below the number finds anything.
abbrev pub NoneBelow : LoadInputs → ℕ → Type 0
NoneBelow i number = (n : FaultNumber) → finding_number n < number → Finds i n None
