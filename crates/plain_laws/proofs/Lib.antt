mod Filled
mod Unchanged
pub mod Forms
mod Fronts
mod Table
mod Follows
mod Walks
mod TreeForms
pub mod Law
mod TreeLaw
mod MoveForms
mod MoveLaw
mod ListForms
mod ListWalks
mod ListNodes
mod ListLaw
