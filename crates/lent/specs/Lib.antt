-- Lists of which the first elements are changed, or searched.
pub mod First
