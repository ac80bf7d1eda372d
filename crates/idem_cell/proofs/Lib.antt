mod Loading
mod Storing
