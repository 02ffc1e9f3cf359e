-- lists and mappings on one line, and the rows that they stand in
pub mod Forms
pub mod FormTexts
pub mod Cells
pub mod Rows
