pub mod Texts
mod Printed
