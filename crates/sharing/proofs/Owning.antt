-- An owner's rows are the rows that pass a test.
use Rattle.std.proofs.Common.{◌≡◌, ℕ, eqb, List, length, ℤ, sum_by, refl}
use Rattle.tables.specs.Apart.{Known}
use Rattle.tables.specs.Figures.{figures_if, added_by}
use Rattle.tables.specs.Keys.{count_if}
use Rattle.tables.proofs.Adding.{partition_naturals}
use Rattle.sharing.specs.Owners.{count_of, figures_of, added_up}

-- each is the other form, as it is defined
pub count_of-count_if : {T : Type 0} (owned : T → ℕ) (owner : ℕ) (rows : List T) → count_of owned owner rows ≡ count_if (λ r. eqb (owned r) owner) rows
count_of-count_if owned owner rows = refl

pub figures_of-figures_if : {T : Type 0} (owned : T → ℕ) (owner : ℕ) (rows : List T) (xs : List ℤ) → figures_of owned owner rows xs ≡ figures_if (λ r. eqb (owned r) owner) rows xs
figures_of-figures_if owned owner rows xs = refl

pub added_up-added_by : (xs : List ℤ) → added_up xs ≡ added_by (λ x. x) xs
added_up-added_by xs = refl

-- where every row's owner is listed, once, what the owners' rows come to, added over the owners, is what all rows come to
pub owners_sum : {O T : Type 0} (numbered : O → ℕ) (owned : T → ℕ) (f : ℤ → ℕ) (owners : List O) (rows : List T) (xs : List ℤ) → length xs ≡ length rows →
    Known numbered owned owners rows → sum_by (λ o. sum_by f (figures_of owned (numbered o) rows xs)) owners ≡ sum_by f xs
owners_sum {O} {T} numbered owned f owners rows xs l known =
    partition_naturals (λ (o : O) (r : T). eqb (owned r) (numbered o)) f owners rows xs l known
