pub mod name_table
pub mod spelling_index
pub mod persistent_list
pub mod text_core
