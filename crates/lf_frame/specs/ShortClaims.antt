-- A claim in 32 bits.
use Rattle.std.specs.Prelude.{◌≡◌, ℕ, zero, suc, ◌<◌, ◌^◌, refl}
use Rattle.std.proofs.Common.{ap}
use Rattle.lf_frame.specs.declared.claim.Claim.{Claim}
use Rattle.lf_frame.specs.declared.claim.Claim.TheVariants.{Unclaimed, ByOne, ByTwo}
use Rattle.lf_frame.specs.declared.claims.ShortClaim.TheInside.{Inside}

-- The claim of a code.
abbrev pub claim_of_code : ℕ → Claim
claim_of_code zero = Unclaimed
claim_of_code (suc zero) = ByTwo
claim_of_code (suc (suc fence)) = ByOne fence

-- The code of a claim.
abbrev pub claim_code_of : Claim → ℕ
claim_code_of Unclaimed = 0
claim_code_of ByTwo = 1
claim_code_of (ByOne fence) = suc (suc fence)

-- Holds if the code of the claim fits into 32 bits.
abbrev pub IsShortClaim : Claim → Type 0
IsShortClaim claim = claim_code_of claim < 2 ^ 32

-- The claim of these fields.
abbrev pub claim_in : Inside → Claim
claim_in c = claim_of_code c.code

-- The fields of a claim.
abbrev pub stored_claim : Claim → Inside
stored_claim claim = record { code = claim_code_of claim }

claim_code_back : (code : ℕ) → claim_code_of (claim_of_code code) ≡ code
claim_code_back zero = refl
claim_code_back (suc zero) = refl
claim_code_back (suc (suc fence)) = refl

-- Fields are those of their own claim.
pub stored_claim_back : (c : Inside) → stored_claim (claim_in c) ≡ c
stored_claim_back c = ap (λ code. record { code = code }) (claim_code_back c.code)
