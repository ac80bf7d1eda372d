mod Retiring
mod Filling
mod Making
