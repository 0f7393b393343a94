-- What contracts trade with each other cancels in the sum over all contracts.
use Rattle.std.proofs.Common.{◌≡◌, ℕ, ◌≤◌, min, Bool, true, false, cond, not, ◌&&◌, eqb, List, map, ℤ, pos, ◌+ℤ◌, ◌-ℤ◌, neg_ℤ, sum, sym, refl, ap, ◌∙◌, arith}
use lib.ListN.{length-map}
use Rattle.std.proofs.lemmas.Int.{ints}
use Rattle.std.proofs.lemmas.Bool.{both_ways, cond-false}
use Rattle.tables.specs.Keys.{count_if}
use Rattle.tables.specs.Apart.{apart}
use Rattle.tables.specs.Figures.{figures_if, added_by}
use Rattle.tables.proofs.Adding.{none-plus, added-same, added_none, added-both, added_neg, added-map, swap, partition, figures-added, figures-sum, carried_figures, counted-first}
use Rattle.terms.specs.declared.codes.Direction.{Direction}
use Rattle.terms.specs.declared.codes.Direction.TheVariants.{Sale, Purchase}
use Rattle.terms.specs.declared.partner.Partner.{Partner}
use Rattle.terms.specs.declared.partner.Partner.TheVariants.{Exchange, Outside, Contract as With}
use Rattle.terms.specs.declared.records.Contract.{Contract}
use Rattle.terms.specs.declared.records.Line.{Line}
use Rattle.trades.specs.Trades.{turned, faces, opposite, planned_by, corrected_with, corrected, net_of}
use Rattle.trades.specs.Laws.{same_line}
use Rattle.trades.specs.Beyond.{beyond, beyond_area, TradesCancel}
use Rattle.trades.proofs.Opposites.{facing, opposite-back, opposite-once}

-- a sale counts as it is, a purchase below zero
abbrev net : Direction → ℤ → ℤ
net Sale z = z
net Purchase z = neg_ℤ z

net-one : (e : Bool) (d : Direction) (z : ℤ) → cond (e && not (turned Sale d)) z (pos 0) +ℤ neg_ℤ (cond (e && not (turned Purchase d)) z (pos 0)) ≡ cond e (net d z) (pos 0)
net-one true Sale z = omega (arith, ints)
net-one true Purchase z = none-plus (neg_ℤ z)
net-one false d z = refl

-- sales less purchases, line by line
net-lines : (e : Line → Bool) (a : Line → ℕ) (ls : List Line) →
    pos (sum (figures_if (λ l. e l && not (turned Sale l.direction)) ls (map a ls))) -ℤ pos (sum (figures_if (λ l. e l && not (turned Purchase l.direction)) ls (map a ls)))
    ≡ added_by (λ l. cond (e l) (net l.direction (pos (a l))) (pos 0)) ls
net-lines e a ls =
    ap (λ z. z -ℤ pos (sum (figures_if (way Purchase) ls (map a ls)))) (figures-sum (way Sale) a ls)
    ∙ ap (λ z. added_by (part Sale) ls -ℤ z) (figures-sum (way Purchase) a ls)
    ∙ ap (λ z. added_by (part Sale) ls +ℤ z) (sym (added_neg (part Purchase) ls))
    ∙ sym (added-both (part Sale) (λ l. neg_ℤ (part Purchase l)) ls)
    ∙ added-same (λ l. part Sale l +ℤ neg_ℤ (part Purchase l)) (λ l. cond (e l) (net l.direction (pos (a l))) (pos 0)) ls (λ l. net-one (e l) l.direction (pos (a l)))
  where
    way : Direction → Line → Bool
    way d l = e l && not (turned d l.direction)

    part : Direction → Line → ℤ
    part d l = cond (way d l) (pos (a l)) (pos 0)

-- what a line moves out of its contract, and what of it leaves the area
abbrev flow : List Line → Line → ℤ
flow ls l = net l.direction (pos (corrected ls l))

abbrev leaving : Line → ℤ
leaving l = cond (beyond l.partner) (net l.direction (pos l.agreed)) (pos 0)

leaving-all : (ls : List Line) → added_by leaving ls ≡ pos (beyond_area Sale ls) -ℤ pos (beyond_area Purchase ls)
leaving-all ls =
    sym (net-lines (λ l. beyond l.partner) (λ l. l.agreed) ls)
    ∙ ap (λ xs. pos (sum xs) -ℤ pos (sum (figures_if (way Purchase) ls (map (λ l. l.agreed) ls)))) (sym (carried_figures (way Sale) (λ l. l.agreed) ls))
    ∙ ap (λ xs. pos (beyond_area Sale ls) -ℤ pos (sum xs)) (sym (carried_figures (way Purchase) (λ l. l.agreed) ls))
  where
    way : Direction → Line → Bool
    way d l = beyond l.partner && not (turned d l.direction)

-- what a line has in common with its opposite, as the line has it
abbrev common : Line → Line → ℤ
common l m = cond (opposite l m) (net l.direction (pos (min l.planned m.planned))) (pos 0)

net-turned : (c d : Direction) (z : ℤ) → turned c d ≡ true → net c z ≡ neg_ℤ (net d z)
net-turned Sale Sale z t = absurd (both_ways false refl t)
net-turned Sale Purchase z t = omega (arith, ints)
net-turned Purchase Sale z t = refl
net-turned Purchase Purchase z t = absurd (both_ways false refl t)

common_neg : (l m : Line) → common l m ≡ neg_ℤ (common m l)
common_neg l m = go (opposite l m) (opposite m l) refl refl
  where
    go : (a b : Bool) → opposite l m ≡ a → opposite m l ≡ b → cond a (net l.direction (pos (min l.planned m.planned))) (pos 0) ≡ neg_ℤ (cond b (net m.direction (pos (min m.planned l.planned))) (pos 0))
    go true true o p =
        let c : min l.planned m.planned ≡ min m.planned l.planned = omega arith in
        ap (λ n. net l.direction (pos n)) c ∙ net-turned l.direction m.direction (pos (min m.planned l.planned)) (facing l m o).ways
    go true false o p = absurd (both_ways (opposite m l) p (opposite-back l m o))
    go false true o p = absurd (both_ways (opposite l m) o (opposite-back m l p))
    go false false o p = refl

own_negative : (z : ℤ) → z ≡ neg_ℤ z → z ≡ pos 0
own_negative z e = omega (arith, ints)

common-none : (ls : List Line) → added_by (λ l. added_by (common l) ls) ls ≡ pos 0
common-none ls = own_negative _ (swap common ls ls ∙ added-same (λ m. added_by (λ l. common l m) ls) (λ m. neg_ℤ (added_by (common m) ls)) ls back ∙ added_neg (λ m. added_by (common m) ls) ls)
  where
    back : (m : Line) → added_by (λ l. common l m) ls ≡ neg_ℤ (added_by (common m) ls)
    back m = added-same (λ l. common l m) (λ l. neg_ℤ (common m l)) ls (λ l. common_neg l m) ∙ added_neg (common m) ls

-- a line that faces no contract has nothing in common with any
not_faced : (l : Line) → ((n : ℕ) → faces l.partner n ≡ false) → (ls : List Line) → added_by (common l) ls ≡ pos 0
not_faced l h ls = added_none (common l) ls (λ m. cond-false _ _ _ (ap (λ t. t && faces m.partner l.contract && turned l.direction m.direction) (h m.contract)))

plus_nothing : (a b : ℤ) → b ≡ pos 0 → a +ℤ b ≡ a
plus_nothing a b e = omega (arith, ints)

-- what a line moves leaves the area or is in common with its opposite
flow_split : (ls : List Line) (l : Line) → count_if (opposite l) ls ≤ 1 → (q : Partner) → l.partner ≡ q →
    net l.direction (pos (corrected_with q ls l)) ≡ cond (beyond q) (net l.direction (pos l.agreed)) (pos 0) +ℤ added_by (common l) ls
flow_split ls l c Exchange e = sym (plus_nothing _ _ (not_faced l (λ n. ap (λ q. faces q n) e) ls))
flow_split ls l c (Outside p) e = sym (plus_nothing _ _ (not_faced l (λ n. ap (λ q. faces q n) e) ls))
flow_split ls l c (With p) e = sym (counted-first (opposite l) (λ o. net l.direction (pos (min l.planned (planned_by o)))) ls none c) ∙ sym (none-plus (added_by (common l) ls))
  where
    net-none : (d : Direction) → net d (pos 0) ≡ pos 0
    net-none Sale = refl
    net-none Purchase = refl

    none : net l.direction (pos (min l.planned 0)) ≡ pos 0
    none = let z : min l.planned 0 ≡ 0 = omega arith in ap (λ n. net l.direction (pos n)) z ∙ net-none l.direction

flows_leave : (ls : List Line) → apart same_line ls ≡ true → added_by (flow ls) ls ≡ pos (beyond_area Sale ls) -ℤ pos (beyond_area Purchase ls)
flows_leave ls w =
    added-same (flow ls) (λ l. leaving l +ℤ added_by (common l) ls) ls (λ l. flow_split ls l (opposite-once ls w l) l.partner refl)
    ∙ added-both leaving (λ l. added_by (common l) ls) ls
    ∙ plus_nothing _ _ (common-none ls)
    ∙ leaving-all ls

pub trades_cancel : TradesCancel
trades_cancel contracts ls w each =
    added-same (λ (c : Contract). net_of c.number ls (map (corrected ls) ls)) (λ c. added_by (λ x. x) (figures_if (mine c) ls (map (flow ls) ls))) contracts own
    ∙ partition mine (λ x. x) contracts ls (map (flow ls) ls) (length-map ls (flow ls)) each
    ∙ added-map (λ x. x) (flow ls) ls
    ∙ flows_leave ls w
  where
    mine : Contract → Line → Bool
    mine c l = eqb l.contract c.number

    own : (c : Contract) → net_of c.number ls (map (corrected ls) ls) ≡ added_by (λ x. x) (figures_if (mine c) ls (map (flow ls) ls))
    own c = net-lines (mine c) (corrected ls) ls ∙ sym (figures-added (λ x. x) (mine c) (flow ls) ls)
