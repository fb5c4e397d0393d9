pub mod Opens
pub mod Office
