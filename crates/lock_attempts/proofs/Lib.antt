mod Concluded
mod Along
mod Repeated
mod Numbering
mod Spending
