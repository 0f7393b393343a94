-- The code and the number of a partner: one definition for each.
use Rattle.std.specs.Prelude.{◌≡◌, ◌≢◌, ℕ, cond, Some, None, Option, Result, MatchResult, if◌then◌else◌, nat_eq, ◌==◌}
use Rattle.terms.specs.declared.codes.UnknownCode.{UnknownCode}
use Rattle.terms.specs.declared.partner.Partner.{Partner}
use Rattle.terms.specs.declared.partner.Partner.TheVariants.{Exchange, Outside, Contract}

abbrev pub partner_code : Partner → ℕ
partner_code Exchange = 1
partner_code (Outside n) = 2
partner_code (Contract n) = 3

-- The exchange is numbered 0.
abbrev pub partner_number : Partner → ℕ
partner_number Exchange = 0
partner_number (Outside n) = n
partner_number (Contract n) = n

-- The partner of a kind and number, if any has the kind.
abbrev pub partner_of : ℕ → ℕ → Option Partner
partner_of kind number = cond (kind == 1) (Some Exchange) (cond (kind == 2) (Some (Outside number)) (cond (kind == 3) (Some (Contract number)) None))

-- What a conversion from a kind and a number gives: the partner of the kind, the exchange numbered 0; or an error with the kind, where no partner has it.
abbrev pub DecodesPartner : ℕ → ℕ → Result Partner UnknownCode → Type 0
DecodesPartner kind number r = MatchResult r (λ p. (partner_of kind number ≡ Some p) × (partner_code p ≡ kind) × (partner_number p ≡ (if nat_eq kind 1 then 0 else number))) (λ e. (partner_of kind number ≡ None) × (e.code ≡ kind) × ((p : Partner) → partner_code p ≢ kind))
