use Rattle.std.proofs.Common.{◌≡◌, [], ◌∷◌, ◌++◌, get_or, set, sym, ap, ◌∙◌, subst, arith, rules}
use Rattle.tables.specs.Keys.{find}
use Rattle.tables.specs.Listed.{listed}
use Rattle.tables.proofs.Finding.{First, found, absent, filed}
use Rattle.tables.proofs.filing.file_row.Given as given
use Rattle.tables.proofs.filing.file_row.Goals as goal
use Rattle.tables.proofs.filing.file_row.Goals.{In-Some}

-- the row that the search found, in the lent rows and in the table
lent : (g : given.Over) (c : In-Some g) → First (g.T.Keyed.fits c.args.key) c.as_slice-rows.result.now c.in-Some.i
lent g c = found (g.T.Keyed.fits c.args.key) c.as_slice-rows.result.now c.in-Some.i (sym c.in-Some.ensures)

there : (g : given.Over) (c : In-Some g) → First (g.T.Keyed.fits c.args.key) (listed c.args.table.now) c.in-Some.i
there g c = subst (λ rows. First (g.T.Keyed.fits c.args.key) rows c.in-Some.i) c.as_slice-rows.ensures (lent g c)

pub offset_bounds-rows-i : goal.offset_bounds-rows-i
offset_bounds-rows-i g c = omega (arith, (lent g c).within)

pub bounds-rows-i : goal.bounds-rows-i
bounds-rows-i g c = (lent g c).within

pub replace-requires : goal.replace-requires
replace-requires g c = (search rules, (there g (goal.at.replace-requires g c).In-Some).within)

pub returns-in-Some : goal.returns-in-Some
returns-in-Some g c =
    let a = c.args in
    let i = c.in-Some.i in
    let row = c.index-rows-i.result in
    let old = listed a.table.now in
    let amend = g.T.Row.amended a.value in
    let new = g.T.Row.made a.key a.value in
    let read : row ≡ get_or old i row = c.index-rows-i.is ∙ ap (λ rows. get_or rows i row) c.as_slice-rows.ensures in
    let e = c.replace.ensures ∙ ap (set old i) c.amend-row.ensures ∙ sym ((there g (goal.at.returns-in-Some g c).In-Some).amended amend new row read) in
    record { rows = e; change = filed (g.T.Keyed.fits a.key) amend new old (listed c.replace.new.self) e }

pub returns-in-None : goal.returns-in-None
returns-in-None g c =
    let a = c.args in
    let fits = g.T.Keyed.fits a.key in
    let old = listed a.table.now in
    let amend = g.T.Row.amended a.value in
    let new = g.T.Row.made a.key a.value in
    let none = sym (c.in-None.ensures ∙ ap (find fits) c.as_slice-rows.ensures) in
    let e = c.push.ensures ∙ ap (λ row. old ++ row ∷ []) c.make.ensures ∙ sym ((absent fits old 0 none).added amend new) in
    record { rows = e; change = filed fits amend new old (listed c.push.new.self) e }
