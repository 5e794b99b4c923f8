pub mod Filter
pub mod FilterForm
pub mod FilterText
pub mod FilterFault
pub mod Script
pub mod Laws
