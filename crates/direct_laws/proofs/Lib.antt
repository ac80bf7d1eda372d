pub mod DirectCells
