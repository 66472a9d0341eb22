-- What is handed in, in the definitions' terms.
--     table_of    a table
-- Assumes nothing.
use Rattle.model.specs.Lookup as lookup
use Rattle.lookup.specs.declared.Table.{Table}

abbrev pub table_of : Table → lookup.Table
table_of k = lookup.table k.rates.now k.buffers.now k.fullnesses.now k.ts k.nu k.span
