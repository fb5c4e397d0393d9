pub mod Bay
