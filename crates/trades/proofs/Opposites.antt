-- Opposite lines get the same corrected figure, and a line without an opposite zero.
use Rattle.std.proofs.Common.{◌≡◌, ℕ, ◌≤◌, min, true, false, not, ◌&&◌, eqb, List, [], ◌∷◌, Some, sym, refl, ap, ◌∙◌, arith}
use Rattle.std.specs.List.{AllByRecursion}
use Rattle.std.proofs.ByRecursion.{All-weaker}
use Rattle.std.proofs.lemmas.Bool.{and_parts, and_from, both_ways, eqb-true, eq-eqb}
use Rattle.tables.specs.Keys.{first_of, count_if}
use Rattle.tables.specs.Apart.{apart}
use Rattle.tables.proofs.Apartness.{count_apart, found-is, found_none}
use Rattle.terms.specs.declared.codes.Direction.{Direction}
use Rattle.terms.specs.declared.codes.Direction.TheVariants.{Sale, Purchase}
use Rattle.terms.specs.declared.partner.Partner.{Partner}
use Rattle.terms.specs.declared.partner.Partner.TheVariants.{Exchange, Outside, Contract}
use Rattle.terms.specs.declared.records.Line.{Line}
use Rattle.trades.specs.Trades.{turned, faces, opposite, planned_by, corrected_with, corrected}
use Rattle.trades.specs.Laws.{same_partner, same_line, OppositesAgree, AloneIsZero}

faces-is : (q : Partner) (n : ℕ) → faces q n ≡ true → q ≡ Contract n
faces-is Exchange n e = absurd (both_ways false refl e)
faces-is (Outside p) n e = absurd (both_ways false refl e)
faces-is (Contract p) n e = ap Contract (eqb-true p n e)

same_partner_refl : (q : Partner) → same_partner q q ≡ true
same_partner_refl Exchange = refl
same_partner_refl (Outside p) = eq-eqb p p refl
same_partner_refl (Contract p) = eq-eqb p p refl

faced_once : (q : Partner) (m n : ℕ) → faces q m ≡ true → faces q n ≡ true → eqb m n ≡ true
faced_once Exchange m n a b = absurd (both_ways false refl a)
faced_once (Outside p) m n a b = absurd (both_ways false refl a)
faced_once (Contract p) m n a b = eq-eqb m n (sym (eqb-true p m a) ∙ eqb-true p n b)

same-facing : (q r : Partner) (n : ℕ) → faces q n ≡ true → faces r n ≡ true → same_partner q r ≡ true
same-facing q r n a b = ap (λ x. same_partner q x) (faces-is r n b ∙ sym (faces-is q n a)) ∙ same_partner_refl q

turned-once : (c d e : Direction) → turned c d ≡ true → turned c e ≡ true → not (turned d e) ≡ true
turned-once Sale Sale e a b = absurd (both_ways false refl a)
turned-once Sale Purchase Sale a b = absurd (both_ways false refl b)
turned-once Sale Purchase Purchase a b = refl
turned-once Purchase Sale Sale a b = refl
turned-once Purchase Sale Purchase a b = absurd (both_ways false refl b)
turned-once Purchase Purchase e a b = absurd (both_ways false refl a)

turned-sym : (c d : Direction) → turned c d ≡ turned d c
turned-sym Sale Sale = refl
turned-sym Sale Purchase = refl
turned-sym Purchase Sale = refl
turned-sym Purchase Purchase = refl

pub record Facing (l m : Line) : Type 0 where
  pub mine : faces l.partner m.contract ≡ true
  pub yours : faces m.partner l.contract ≡ true
  pub ways : turned l.direction m.direction ≡ true

pub facing : (l m : Line) → opposite l m ≡ true → Facing l m
facing l m o =
    let p = and_parts (faces l.partner m.contract && faces m.partner l.contract) (turned l.direction m.direction) o in
    let q = and_parts (faces l.partner m.contract) (faces m.partner l.contract) p.0 in
    record { mine = q.0; yours = q.1; ways = p.1 }

pub opposite-back : (l m : Line) → opposite l m ≡ true → opposite m l ≡ true
opposite-back l m o =
    let p = facing l m o in
    and_from _ _ (and_from _ _ p.yours p.mine) (turned-sym m.direction l.direction ∙ p.ways)

-- a line has at most one opposite
pub opposite-once : (ls : List Line) → apart same_line ls ≡ true → (l : Line) → count_if (opposite l) ls ≤ 1
opposite-once ls w l = count_apart same_line (opposite l) ls w same
  where
    same : (x y : Line) → opposite l x ≡ true → opposite l y ≡ true → same_line x y ≡ true
    same x y a b =
        let p = facing l x a in
        let q = facing l y b in
        and_from _ _ (faced_once l.partner x.contract y.contract p.mine q.mine)
        (and_from _ _ (turned-once l.direction x.direction y.direction p.ways q.ways) (same-facing x.partner y.partner l.contract p.yours q.yours))

-- m is what a search for the opposite of any line finds, if it is that
Sought : List Line → Line → Type 0
Sought ls m = (l : Line) → opposite l m ≡ true → first_of (opposite l) ls ≡ Some m

by_opposite : (ls : List Line) (l m : Line) → opposite l m ≡ true → first_of (opposite l) ls ≡ Some m → corrected ls l ≡ min l.planned m.planned
by_opposite ls l m o e =
    ap (λ q. corrected_with q ls l) (faces-is l.partner m.contract (facing l m o).mine) ∙ ap (λ x. min l.planned (planned_by x)) e

all_any : {A B : Type 0} (P : B → A → Type 0) (xs : List A) → ((b : B) → AllByRecursion (λ a. P b a) xs) → AllByRecursion (λ a. (b : B) → P b a) xs
all_any P [] h = tt
all_any P (x ∷ xs) h = (λ b. (h b).0, all_any P xs (λ b. (h b).1))

pub opposites_agree : OppositesAgree
unfolding Sought
opposites_agree ls w = All-weaker (Sought ls) (λ l. AllByRecursion (λ m. opposite l m ≡ true → corrected ls l ≡ corrected ls m) ls) outer ls sought
  where
    sought : AllByRecursion (Sought ls) ls
    sought = all_any (λ l m. opposite l m ≡ true → first_of (opposite l) ls ≡ Some m) ls (λ l. found-is (opposite l) ls (opposite-once ls w l))

    pair : (l m : Line) → Sought ls l → Sought ls m → opposite l m ≡ true → corrected ls l ≡ corrected ls m
    pair l m sl sm o =
        let back : opposite m l ≡ true = opposite-back l m o in
        let a : corrected ls l ≡ min l.planned m.planned = by_opposite ls l m o (sm l o) in
        let b : corrected ls m ≡ min m.planned l.planned = by_opposite ls m l back (sl m back) in
        let c : min l.planned m.planned ≡ min m.planned l.planned = omega arith in
        a ∙ c ∙ sym b

    outer : (l : Line) → Sought ls l → AllByRecursion (λ m. opposite l m ≡ true → corrected ls l ≡ corrected ls m) ls
    outer l sl = All-weaker (Sought ls) (λ m. opposite l m ≡ true → corrected ls l ≡ corrected ls m) (λ m sm. pair l m sl sm) ls sought

pub alone_is-zero : AloneIsZero
alone_is-zero ls l p e n =
    let z : min l.planned 0 ≡ 0 = omega arith in
    ap (λ q. corrected_with q ls l) e ∙ ap (λ x. min l.planned (planned_by x)) (found_none (opposite l) ls n) ∙ z
