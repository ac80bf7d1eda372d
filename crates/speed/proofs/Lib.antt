mod Asked
mod Fronts
mod Serving
mod Whole
