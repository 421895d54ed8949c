pub mod CheckedTables
