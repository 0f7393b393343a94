-- What was filed, as the lists of its records.
use Rattle.tables.specs.Listed.{listed}
use Rattle.settlement.specs.Area.{Filed}
use Rattle.book.specs.declared.filings.Filings.TheInside.{Inside}

abbrev pub filed : Inside → Filed
filed f = record {
  contracts = listed f.contracts;
  groups = listed f.groups;
  plants = listed f.plants;
  shares = listed f.shares;
  lines = listed f.lines;
  places = listed f.places;
}
